mod ZoneFiles
