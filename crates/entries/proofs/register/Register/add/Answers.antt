use Rattle.std.proofs.Common.{rules, ◌≡◌, ℕ, ◌+◌, List, Option, None, Some}
use Rattle.std.specs.Option.{MatchOption}
use Rattle.entries.specs.declared.record.Entry.{Entry}
use Rattle.entries.specs.Views.{LastOf, Added, joined, joins}
use Rattle.entries.proofs.register.Register.add.Goals as goal

-- a family is given, and its last entry is l
added : (es after : List Entry) (start edges l : ℕ) (family : Option ℕ) → MatchOption family (Some l ≡ None) (λ k. LastOf es (k + 1) (Some l)) → after ≡ joined es start edges l
    → Added es start edges family after
added es after start edges l None e is = cc
added es after start edges l (Some k) last is = joins l last is

pub returns-in-Some : goal.returns-in-Some
returns-in-Some c = added _ _ _ _ c.in-Some.last c.args.family (search rules) c.join.ensures
