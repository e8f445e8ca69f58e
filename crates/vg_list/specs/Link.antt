-- Where a link leads.
use Rattle.std.specs.Prelude.{ℕ, Option, Some, None}
use Rattle.vg_list.specs.declared.link.Link.{Link}
use Rattle.vg_list.specs.declared.link.Link.TheVariants.{Node, Sentinel, Unlinked}

-- the node that a link leads to
abbrev pub node_of : Link → Option ℕ
node_of (Node node) = Some node
node_of (Sentinel list) = None
node_of Unlinked = None
