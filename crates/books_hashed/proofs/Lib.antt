pub mod HashTables
pub mod ProbeTurns
pub mod Probes
