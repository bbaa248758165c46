-- The answers to label and lay lines.
use Rattle.std.specs.Prelude.{◌≡◌, ℕ, Bool, ◌&&◌, List, Some, None, Option, Ok, Err, Result, ◌==◌, nat_eq}
use Rattle.drawing.specs.Nets.{Net, edges}
use Rattle.block.specs.declared.body.Block.{Block}
use Rattle.block.specs.Checked.{Checked}
use Rattle.label.specs.declared.measures.Measures.{Measures}
use Rattle.label.specs.declared.both.Labels.{Labels}
use Rattle.label.specs.Measured.{measure, mark, Asked}
use Rattle.label.specs.Sameness.{same_measures}
use Rattle.laying.specs.Flaws.{Misfit}
use Rattle.laying.specs.Layings.{Verdict, Congruent}
use Rattle.lines.specs.declared.kind.KindName.{KindName}
use Rattle.lines.specs.declared.kind.KindName.TheVariants as kind
use Rattle.replies.specs.declared.measured.Unmeasured.{Unmeasured}
use Rattle.replies.specs.declared.measured.Unmeasured.TheVariants.{NoEdge, NoBlock}
use Rattle.replies.specs.declared.laid.Unpaired.{Unpaired}
use Rattle.replies.specs.declared.laid.Unpaired.TheVariants as unpaired

-- the measure and the mark of an edge
abbrev pub both_labels : Net → ℕ → Labels Measures ℕ
both_labels m e = record { first = measure m e; second = mark m e }

-- both are the same
abbrev pub same_both : Labels Measures ℕ → Labels Measures ℕ → Bool
same_both x y = same_measures x.first y.first && x.second == y.second

-- No misfit means that the laying is a congruence, and a misfit that it is none.
abbrev pub ByShape : Net → Net → List ℕ → Option Misfit → Type 0
ByShape a b images None = Congruent a b images
ByShape a b images (Some m) = Congruent a b images → ⊥

-- The verdict on a laying under the kind of this name. Under the measure it is one on the shapes.
abbrev pub VerdictUnder : KindName → Net → Net → List ℕ → Option Misfit → Type 0
VerdictUnder kind.Measure a b images v = Verdict measure same_measures a b images v × ByShape a b images v
VerdictUnder kind.Mark a b images v = Verdict mark nat_eq a b images v
VerdictUnder kind.Both a b images v = Verdict both_labels same_both a b images v

-- What the edge of this number measures, or that the block has none of this number but so many edges.
abbrev pub AnswersLabelIn : Net → ℕ → Result Measures Unmeasured → Type 0
AnswersLabelIn m e (Ok x) = Asked m e (Some x)
AnswersLabelIn m e (Err (NoEdge n)) = (n ≡ edges m) × Asked m e None
AnswersLabelIn m e (Err NoBlock) = ⊥

-- The answer to a label line: of the last block, if there is one, which is a checked one.
abbrev pub AnswersLabel : Option Block → ℕ → Result Measures Unmeasured → Type 0
AnswersLabel None e r = r ≡ Err NoBlock
AnswersLabel (Some b) e r = Checked b × AnswersLabelIn b e r

module _ {T : Type 0} where
  -- A pairing under this kind, or none for the first flaw.
  abbrev pub AnswersLayOn : Net → Net → KindName → List ℕ → Result T Unpaired → Type 0
  AnswersLayOn a b k images (Ok x) = VerdictUnder k a b images None
  AnswersLayOn a b k images (Err (unpaired.Misfit misfit)) = VerdictUnder k a b images (Some misfit)
  AnswersLayOn a b k images (Err unpaired.NoPair) = ⊥

  -- The answer to a lay line: of the last block but one and the last, if there are both, which are checked ones.
  abbrev pub AnswersLay : Option Block → Option Block → KindName → List ℕ → Result T Unpaired → Type 0
  AnswersLay None last k images r = r ≡ Err unpaired.NoPair
  AnswersLay (Some a) None k images r = r ≡ Err unpaired.NoPair
  AnswersLay (Some a) (Some b) k images r = (Checked a × Checked b) × AnswersLayOn a b k images r
