pub mod RangeLaws
pub mod VerdictLaws
pub mod KeyVerdicts
pub mod TreeLaws
pub mod JudgingLaws
