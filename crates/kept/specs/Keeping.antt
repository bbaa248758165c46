-- The last two sound drawings.
use Rattle.std.specs.Prelude.{Some}
use Rattle.block.specs.declared.body.Block.{Block}
use Rattle.kept.specs.declared.recent.Recent.{Recent}

-- a block more: it is the last, and what was the last is the last but one
abbrev pub kept : Recent → Block → Recent
kept r b = record { last = Some b; before = r.last }
