-- The answers to label and lay lines, as they are written.
use Rattle.std.specs.Prelude.{ℕ, List, ◌++◌, Ok, Err, Result, codes, decimal}
use Rattle.label.specs.declared.measures.Measures.{Measures}
use Rattle.label.specs.Written.{six_written}
use Rattle.laying.specs.Flaws.{flaw_word}
use Rattle.replies.specs.declared.measured.LabelAnswer.{LabelAnswer}
use Rattle.replies.specs.declared.measured.Unmeasured.{Unmeasured}
use Rattle.replies.specs.declared.measured.Unmeasured.TheVariants.{NoEdge, NoBlock}
use Rattle.replies.specs.declared.laid.LayAnswer.{LayAnswer}
use Rattle.replies.specs.declared.laid.Unpaired.{Unpaired}
use Rattle.replies.specs.declared.laid.Unpaired.TheVariants.{Misfit, NoPair}
use Rattle.lines.specs.declared.kind.KindName.{KindName}
use Rattle.lines.specs.Kinds.{name_of}

-- 0, the edge and what it measures; or the number of the refusal, and the place
abbrev pub measures_written : ℕ → Result Measures Unmeasured → List ℕ
measures_written edge (Ok measures) = codes "label 0 " ++ (decimal edge ++ (codes " " ++ six_written measures))
measures_written edge (Err (NoEdge edges)) = codes "label 14 " ++ decimal edge
measures_written edge (Err NoBlock) = codes "label 13 1"

abbrev pub label_written : LabelAnswer → List ℕ
label_written answer = measures_written answer.edge answer.measures

-- 0, whether they are a pairing, and under which kind, with their first flaw and its place; or the number of the refusal, and the place
abbrev pub paired_written : {T : Type 0} → KindName → Result T Unpaired → List ℕ
paired_written kind (Ok x) = codes "lay 0 yes " ++ name_of kind
paired_written kind (Err (Misfit misfit)) = codes "lay 0 no " ++ (name_of kind ++ (codes " " ++ (flaw_word misfit.cause ++ (codes " " ++ decimal misfit.place))))
paired_written kind (Err NoPair) = codes "lay 13 1"

abbrev pub lay_written : LayAnswer → List ℕ
lay_written answer = paired_written answer.kind answer.paired
