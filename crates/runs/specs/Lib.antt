-- What the results of runs tell.
pub mod Results
