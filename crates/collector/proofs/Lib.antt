mod ListLemmas
mod TaskPlaces
mod SlotLemmas
mod MadeImages
mod Acknowledging
mod FaultLemmas
