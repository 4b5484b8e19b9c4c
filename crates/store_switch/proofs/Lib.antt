mod LiveFiles
mod CalmRuns
mod StoreLoads
mod StoreCreations
mod IntactStores
mod ChangedStores
mod CheckpointedStores
mod EntriesLeft
