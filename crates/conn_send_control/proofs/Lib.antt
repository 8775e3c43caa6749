mod Takings
mod Going
mod Telling
mod Steps
mod Ends
mod Opening
mod Account
mod Both
