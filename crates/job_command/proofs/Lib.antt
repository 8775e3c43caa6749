pub mod ExchangeLemmas
pub mod SameJobs
pub mod StoringLemmas
