-- What a line does to what is in hand, and what it is answered.
use Rattle.std.specs.Prelude.{◌≡◌, ℕ, [], ◌∷◌, ◌++◌, length, Some, None, Option, Ok, Err, Result}
use Rattle.drawing.specs.Causes.{Fault}
use Rattle.drawing.specs.Verdicts as verdict
use Rattle.block.specs.declared.body.Block.{Block}
use Rattle.replies.specs.declared.answer.Answer.{Answer}
use Rattle.replies.specs.declared.measured.LabelAnswer.{LabelAnswer}
use Rattle.replies.specs.declared.laid.LayAnswer.{LayAnswer}
use Rattle.lines.specs.declared.kind.KindName.{KindName}
use Rattle.lines.specs.declared.line.Line.{Line}
use Rattle.lines.specs.declared.line.Line.TheVariants as line
use Rattle.inspect.specs.declared.reply.Reply.{Reply}
use Rattle.inspect.specs.declared.reply.Reply.TheVariants as reply
use Rattle.inspect.specs.State.{State}
use Rattle.inspect.specs.Judged.{Drawn}
use Rattle.kept.specs.declared.recent.Recent.{Recent}
use Rattle.kept.specs.Keeping.{kept}
use Rattle.kept.specs.Answered.{AnswersLabel, AnswersLay}
use Rattle.inspect.specs.Tallies.{counted}

-- The drawing is sound, as many edges are answered as it has corners, and its block is kept as the last one.
pub record Passed (drawing : verdict.Tables) (before : Recent) (n : ℕ) (after : Recent) : Type 0 where
  pub block : Block
  pub drawn : Drawn drawing block
  pub edge_count : n ≡ length drawing.corners
  pub recent : after ≡ kept before block

-- The drawing is refused for this fault, and the kept blocks stay.
pub record Failed (drawing : verdict.Tables) (before : Recent) (f : Fault) (after : Recent) : Type 0 where
  pub refused : verdict.Refused drawing f
  pub recent : after ≡ before

-- The verdict on a drawing, and the blocks that were kept before and are kept after it.
abbrev pub Judges : verdict.Tables → Recent → Result ℕ Fault → Recent → Type 0
Judges drawing before (Ok n) after = Passed drawing before n after
Judges drawing before (Err f) after = Failed drawing before f after

-- The tables in hand were judged and counted, and they are empty; the images stay.
pub record Checks (s : State) (answer : Result ℕ Fault) (t : State) : Type 0 where
  pub judged : Judges s.tables s.recent answer t.recent
  pub counts : t.tally ≡ counted s.tally answer
  pub emptied : t.tables ≡ verdict.tables [] [] []
  pub images : t.images ≡ s.images

-- The images were tried with this answer, and they are empty; nothing else changes.
pub record Lays (s : State) (k : KindName) (answer : LayAnswer) (t : State) : Type 0 where
  pub kind : answer.kind ≡ k
  pub tried : AnswersLay s.recent.before s.recent.last k s.images answer.paired
  pub stays : t ≡ record s { images = [] }

-- The edge of this number of the last block was asked for, with this answer; nothing changes.
pub record Asks (s : State) (e : ℕ) (answer : LabelAnswer) (t : State) : Type 0 where
  pub edge : answer.edge ≡ e
  pub labelled : AnswersLabel s.recent.last e answer.measures
  pub stays : t ≡ s

-- A record's line adds it at the end of its table, and an image's line at the end of the images. A check judges the tables and
-- empties them. A label line asks, and changes nothing; a lay line tries the images, and empties them. A blank line does nothing.
abbrev pub Follows : State → Line → State → Option Reply → Type 0
Follows s (line.Point p) t r = (r ≡ None) × (t ≡ record s { tables = record s.tables { points = s.tables.points ++ (p ∷ []) } })
Follows s (line.Corner c) t r = (r ≡ None) × (t ≡ record s { tables = record s.tables { corners = s.tables.corners ++ (c ∷ []) } })
Follows s (line.Face f) t r = (r ≡ None) × (t ≡ record s { tables = record s.tables { faces = s.tables.faces ++ (f ∷ []) } })
Follows s line.Check t r = (answer : Answer) × (r ≡ Some (reply.Check answer)) × Checks s answer.0 t
Follows s (line.Label e) t r = (answer : LabelAnswer) × (r ≡ Some (reply.Label answer)) × Asks s e answer t
Follows s (line.Image g) t r = (r ≡ None) × (t ≡ record s { images = s.images ++ (g ∷ []) })
Follows s (line.Lay k) t r = (answer : LayAnswer) × (r ≡ Some (reply.Lay answer)) × Lays s k answer t
Follows s line.Blank t r = (r ≡ None) × (t ≡ s)
