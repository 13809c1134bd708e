-- What the fields of the objects of one class show.
use Rattle.std.specs.Prelude.{List}
use Rattle.par_heap.specs.declared.block.Block.{Block}
use Rattle.par_heap.specs.Cut.{cut}
use Rattle.par_heap.specs.Heap.{Object}

-- the objects whose fields lie in a block
abbrev pub shown : Block → List Object
shown block = cut block.count block.width block.fields.items
