pub mod WorkLaws
pub mod LoopLaws
pub mod TrialLaws
pub mod CountLaws
pub mod RefusalLaws
pub mod Sample
