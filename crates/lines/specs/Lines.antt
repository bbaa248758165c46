-- What a line says: its first word is the command, and the others are its fields.
use Rattle.std.specs.Prelude.{ℕ, ◌^◌, Bool, true, List, [], ◌∷◌, ℤ, Some, None, Ok, Err, codes, Option, Result, ◌==◌, if◌then◌else◌}
use Rattle.std.specs.Option.{ok_or, option_map}
use Rattle.std.specs.Str.{bytes_eq}
use Rattle.solid.specs.declared.Point.{Point}
use Rattle.drawing.specs.declared.record.Corner.{Corner}
use Rattle.drawing.specs.declared.record.Face.{Face}
use Rattle.lines.specs.declared.kind.KindName.{KindName}
use Rattle.lines.specs.declared.line.Line.{Line}
use Rattle.lines.specs.declared.line.Line.TheVariants as line
use Rattle.lines.specs.declared.line.Malformed.{Malformed}
use Rattle.lines.specs.declared.line.Malformed.TheVariants as malformed
use Rattle.lines.specs.Words.{words}
use Rattle.lines.specs.Numbers.{unsigned, signed}
use Rattle.lines.specs.Kinds.{kind_of}

-- what each kind of field holds
abbrev pub coordinate : List ℕ → Option ℤ
coordinate w = signed (2 ^ 63) w

abbrev pub index : List ℕ → Option ℕ
index w = unsigned (2 ^ 64) w

abbrev pub mark : List ℕ → Option ℕ
mark w = unsigned (2 ^ 8) w

-- a record of numbers that are all there
abbrev pub point : Option ℤ → Option ℤ → Option ℤ → Option Point
point None y z = None
point (Some x) None z = None
point (Some x) (Some y) None = None
point (Some x) (Some y) (Some z) = Some (record { x = x; y = y; z = z })

abbrev pub corner : Option ℕ → Option ℕ → Option ℕ → Option Corner
corner None m n = None
corner (Some p) None n = None
corner (Some p) (Some m) None = None
corner (Some p) (Some m) (Some n) = Some (record { point = p; mark = m; next = n })

abbrev pub face : Option ℕ → Option Face
face None = None
face (Some f) = Some (record { first = f })

-- what f makes of exactly three words
abbrev pub three : {T : Type 0} → (List ℕ → List ℕ → List ℕ → Option T) → List (List ℕ) → Option T
three f [] = None
three f (a ∷ []) = None
three f (a ∷ (b ∷ [])) = None
three f (a ∷ (b ∷ (c ∷ []))) = f a b c
three f (a ∷ (b ∷ (c ∷ (d ∷ ws)))) = None

-- what f makes of exactly one
abbrev pub one : {T : Type 0} → (List ℕ → Option T) → List (List ℕ) → Option T
one f [] = None
one f (a ∷ []) = f a
one f (a ∷ (b ∷ ws)) = None

-- the fields of each command
abbrev pub point_fields : List (List ℕ) → Option Point
point_fields ws = three (λ x y z. point (coordinate x) (coordinate y) (coordinate z)) ws

abbrev pub corner_fields : List (List ℕ) → Option Corner
corner_fields ws = three (λ p m n. corner (index p) (mark m) (index n)) ws

abbrev pub face_fields : List (List ℕ) → Option Face
face_fields ws = one (λ f. face (index f)) ws

abbrev pub check_fields : List (List ℕ) → Option Line
check_fields [] = Some line.Check
check_fields (w ∷ ws) = None

-- one number, and nothing after it
abbrev pub number_field : List (List ℕ) → Option ℕ
number_field ws = one index ws

-- one name of a kind, and nothing after it
abbrev pub kind_field : List (List ℕ) → Option KindName
kind_field ws = one kind_of ws

-- the line has no words, or it is a remark
abbrev pub remark : List ℕ → Bool
remark [] = true
remark (b ∷ bs) = b == 35

-- the line that a command, the first word, and its fields make
abbrev pub sentence : List ℕ → List (List ℕ) → Result Line Malformed
sentence w ws =
    if remark w then Ok line.Blank
    else if bytes_eq w (codes "p") then ok_or (option_map line.Point (point_fields ws)) malformed.PointFields
    else if bytes_eq w (codes "c") then ok_or (option_map line.Corner (corner_fields ws)) malformed.CornerFields
    else if bytes_eq w (codes "f") then ok_or (option_map line.Face (face_fields ws)) malformed.FaceFields
    else if bytes_eq w (codes "check") then ok_or (check_fields ws) malformed.CheckFields
    else if bytes_eq w (codes "label") then ok_or (option_map line.Label (number_field ws)) malformed.LabelFields
    else if bytes_eq w (codes "i") then ok_or (option_map line.Image (number_field ws)) malformed.ImageFields
    else if bytes_eq w (codes "lay") then ok_or (option_map line.Lay (kind_field ws)) malformed.LayFields
    else Err malformed.Command

abbrev pub line_of_words : List (List ℕ) → Result Line Malformed
line_of_words [] = Ok line.Blank
line_of_words (w ∷ ws) = sentence w ws

-- what a line says
abbrev pub line_of : List ℕ → Result Line Malformed
line_of text = line_of_words (words text)
