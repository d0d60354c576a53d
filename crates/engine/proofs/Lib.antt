-- Laws about loads.
pub mod LoadCalls
-- The calls put together: lists of calls and the ledger.
pub mod Runs
pub mod EditsInRuns
pub mod Promises
-- The headline theorems.
pub mod Theorems
