mod CountingJob
mod NoState
mod SnapshotChannelCountingJob
mod TestJob
