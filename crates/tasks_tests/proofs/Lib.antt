mod TestLaws
mod Samples
mod CountingJob
mod OneChannel
mod RaisingJob
mod OneRow
mod Flags
