mod LevelCounts
