pub mod RuleCode
pub mod TokenAt
pub mod Writing
