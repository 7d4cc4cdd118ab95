-- What stands behind a name in the code, as plain data.
use Rattle.std.specs.Prelude.{List, map}
use Rattle.f95_unit.specs.View.{expr_of, bound_of}
use Rattle.shape_check.specs.Nodes as plain
use Rattle.expression_nodes.specs.declared.item.Item.{Item}
use Rattle.expression_nodes.specs.declared.item.Item.TheVariants as item
use Rattle.expression_nodes.specs.declared.item.Behind.{Behind}
use Rattle.expression_nodes.specs.declared.item.Behind.TheVariants as behind

abbrev pub item_of : Item → plain.Item
item_of (item.Single keyword e) = plain.Single keyword (expr_of e)
item_of (item.Triple first last stride) = plain.Triple (bound_of first) (bound_of last) (bound_of stride)

abbrev pub items_of : List Item → List plain.Item
items_of items = map item_of items

abbrev pub behind_of : Behind → plain.Behind
behind_of behind.Bare = plain.Bare
behind_of (behind.Applied items) = plain.Applied (items_of items)
behind_of (behind.Cut items first last) = plain.Cut (items_of items) (bound_of first) (bound_of last)
