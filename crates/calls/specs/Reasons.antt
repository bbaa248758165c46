-- The number, the layer and the place of each refusal.
use Rattle.std.specs.Prelude.{ℕ, List, codes}
use Rattle.drawing.specs.Causes.{Fault}
use Rattle.drawing.specs.Causes as causes
use Rattle.calls.specs.declared.refusal.Layer.{Layer}
use Rattle.calls.specs.declared.refusal.Layer.TheVariants as layers
use Rattle.calls.specs.declared.refusal.Refusal.{Refusal}
use Rattle.calls.specs.declared.refusal.Refusal.TheVariants.{Drawing, NoEntry, NoEdge, ShortBuffer, Full}

abbrev pub number : Refusal → ℕ
number (Drawing f) = causes.number f.cause
number (NoEntry p) = 13
number (NoEdge p) = 14
number (ShortBuffer p) = 15
number (Full p) = 16

abbrev pub layer : Refusal → Layer
layer (Drawing f) = layers.Drawing (causes.layer f.cause)
layer (NoEntry p) = layers.Catalogue
layer (NoEdge p) = layers.Catalogue
layer (ShortBuffer p) = layers.Catalogue
layer (Full p) = layers.Catalogue

-- the layer as it is written
abbrev pub layer_name : Layer → List ℕ
layer_name (layers.Drawing l) = causes.layer_name l
layer_name layers.Catalogue = codes "catalogue"

abbrev pub place : Refusal → ℕ
place (Drawing f) = f.place
place (NoEntry p) = p
place (NoEdge p) = p
place (ShortBuffer p) = p
place (Full p) = p

-- the refusal of a drawing, as it is
abbrev pub of_drawing : Fault → Refusal
of_drawing f = Drawing f
