-- Which record a refusal speaks of.
use Rattle.std.specs.Prelude.{ℕ, cond, ◌==◌}
use Rattle.drawing.specs.declared.fault.Cause.{Cause}
use Rattle.drawing.specs.declared.fault.Cause.TheVariants as cause
use Rattle.drawing.specs.Causes.{Fault}
use Rattle.replies.specs.declared.advice.Subject.{Subject}
use Rattle.replies.specs.declared.advice.Subject.TheVariants.{Drawing, Point, Corner, Face, Edge}

-- the record of this number that a cause speaks of
abbrev pub record_of : Cause → ℕ → Subject
record_of cause.TableCount place = Drawing
record_of cause.Coordinate place = Point place
record_of cause.BrokenChain place = Face place
record_of cause.PointNumber place = Corner place
record_of cause.LoosePoint place = Point place
record_of cause.DoublePoint place = Point place
record_of cause.UnmatchedEdge place = Edge place
record_of cause.PinchedPoint place = Point place
record_of cause.UnreachedEdge place = Edge place
record_of cause.BentFace place = Edge place
record_of cause.LevelFaces place = Edge place
record_of cause.NoVolume place = Drawing

-- at place 0 no one record is meant
abbrev pub subject_of : Fault → Subject
subject_of fault = cond (fault.place == 0) Drawing (record_of fault.cause fault.place)
