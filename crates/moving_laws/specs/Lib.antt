pub mod MovingLevels
