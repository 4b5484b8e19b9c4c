mod WorkedExamples
mod ExampleMaps
mod ExampleTouched
mod SmallDrives
mod ExampleViaWay
mod ExampleBackward
mod ExampleCrossing
mod ExampleBroken
