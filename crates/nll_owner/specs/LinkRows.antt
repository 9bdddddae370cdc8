-- How the links that read a region are kept. Source: project's choice. Only private contracts cite
-- this file.
use Rattle.std.specs.Prelude.{List, [], ◌∷◌}
use Rattle.nll_owner.specs.declared.link.Link.{Link}
use Rattle.nll_owner.specs.declared.link.Links.{Links}
use Rattle.nll_owner.specs.declared.link.Links.TheVariants as links

-- the links that read a region
pub record Row : Type 0 where
  pub items : List Link

-- the row that is kept in this form
abbrev pub row_of_links : Links → Row
row_of_links links.None = record { items = [] }
row_of_links (links.One l) = record { items = l ∷ [] }
row_of_links (links.Many v) = record { items = v.items }
