pub mod HandleSteps
