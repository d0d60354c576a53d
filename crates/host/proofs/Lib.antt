-- Laws about the calls for hosts.
pub mod NumberParts
pub mod Passes
pub mod HostCalls
