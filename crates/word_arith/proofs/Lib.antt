mod Fits
mod SignedLemmas
mod DecimalLemmas
