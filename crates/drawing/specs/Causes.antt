-- The number and the layer of each cause of a refusal.
use Rattle.std.specs.Prelude.{ℕ, List, codes}
use Rattle.drawing.specs.declared.fault.Located.{Located}
use Rattle.drawing.specs.declared.fault.Cause.{Cause}
use Rattle.drawing.specs.declared.fault.Cause.TheVariants.{TableCount, Coordinate, BrokenChain, PointNumber, LoosePoint, DoublePoint, UnmatchedEdge, PinchedPoint, UnreachedEdge, BentFace, LevelFaces, NoVolume}
use Rattle.drawing.specs.declared.fault.Layer.{Layer}
use Rattle.drawing.specs.declared.fault.Layer.TheVariants.{Tables, Shape}

abbrev pub number : Cause → ℕ
number TableCount = 1
number Coordinate = 2
number BrokenChain = 3
number PointNumber = 4
number LoosePoint = 5
number DoublePoint = 6
number UnmatchedEdge = 7
number PinchedPoint = 8
number UnreachedEdge = 9
number BentFace = 10
number LevelFaces = 11
number NoVolume = 12

abbrev pub layer : Cause → Layer
layer TableCount = Tables
layer Coordinate = Tables
layer BrokenChain = Tables
layer PointNumber = Tables
layer LoosePoint = Tables
layer DoublePoint = Tables
layer UnmatchedEdge = Tables
layer PinchedPoint = Tables
layer UnreachedEdge = Tables
layer BentFace = Shape
layer LevelFaces = Shape
layer NoVolume = Shape

-- the layer as it is written
abbrev pub layer_name : Layer → List ℕ
layer_name Tables = codes "tables"
layer_name Shape = codes "shape"

-- a refusal of a drawing
abbrev pub Fault : Type 0
Fault = Located Cause
