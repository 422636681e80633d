pub mod WorkerWords
pub mod ManyWorkers
