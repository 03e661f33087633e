pub mod ProgramSteps
pub mod StepLines
pub mod Sessions
pub mod StepEffects
pub mod StepRuns
pub mod Driving
pub mod Program
