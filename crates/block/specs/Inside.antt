-- The net of a block, and what holds of every block.
use Rattle.std.specs.Prelude.{map}
use Rattle.drawing.specs.Nets.{Net}
use Rattle.block.specs.declared.body.Block.TheInside.{Inside}
use Rattle.block.specs.Checked.{Checked}

-- the points and edges of a block
abbrev pub net_in : Inside → Net
net_in b = record {
  points = b.points.items;
  starts = map (λ e. e.start) b.edges.items;
  marks = map (λ e. e.mark) b.edges.items;
  next = map (λ e. e.next) b.edges.items;
  opposite = map (λ e. e.opposite) b.edges.items;
}

-- its net has what the checks establish
abbrev pub IsChecked : Inside → Type 0
IsChecked b = Checked (net_in b)
