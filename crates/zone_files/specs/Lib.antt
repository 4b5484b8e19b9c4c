pub mod ZoneFileWalks
