-- Lines, and what the definition makes of them.
use Rattle.std.proofs.Common.{◌≡◌, pos, negsuc, Ok, Err, codes, refl}
use Rattle.lines.specs.declared.kind.KindName.TheVariants as kind
use Rattle.lines.specs.declared.line.Line.TheVariants as line
use Rattle.lines.specs.declared.line.Malformed.TheVariants as malformed
use Rattle.lines.specs.Lines.{line_of}

point_line : line_of (codes " p  10 -3   +0 ") ≡ Ok (line.Point (record { x = pos 10; y = negsuc 2; z = pos 0 }))
point_line = refl

corner_line : line_of (codes "c 18446744073709551615 255 0") ≡ Ok (line.Corner (record { point = 18446744073709551615; mark = 255; next = 0 }))
corner_line = refl

face_line : line_of (codes "f 007") ≡ Ok (line.Face (record { first = 7 }))
face_line = refl

check_line : line_of (codes "check ") ≡ Ok line.Check
check_line = refl

label_line : line_of (codes "label 25") ≡ Ok (line.Label 25)
label_line = refl

image_line : line_of (codes "i 18446744073709551615") ≡ Ok (line.Image 18446744073709551615)
image_line = refl

lay_line : line_of (codes "lay both") ≡ Ok (line.Lay kind.Both)
lay_line = refl

other_kind : line_of (codes "lay Mark") ≡ Err malformed.LayFields
other_kind = refl

remark_line : line_of (codes "# p 1 2") ≡ Ok line.Blank
remark_line = refl

large_mark : line_of (codes "c 1 256 0") ≡ Err malformed.CornerFields
large_mark = refl

signed_number : line_of (codes "f -1") ≡ Err malformed.FaceFields
signed_number = refl

long_line : line_of (codes "p 1 2 3 4") ≡ Err malformed.PointFields
long_line = refl

other_word : line_of (codes "point 1 2 3") ≡ Err malformed.Command
other_word = refl
