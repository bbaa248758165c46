mod Hitting
mod Verdicts
mod Congruent
mod Answering
