mod TextBytes
mod LineBytes
mod LineTexts
mod FrameSteps
mod LimitSteps
mod StopSteps
mod HoldingSteps
