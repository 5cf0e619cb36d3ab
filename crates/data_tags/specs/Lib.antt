pub mod Latency
pub mod LatencyLaws
pub mod Table
pub mod Alternate
