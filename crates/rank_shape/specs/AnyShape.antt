-- A shape of any rank, as its extents.
use Rattle.std.specs.Prelude.{ℕ, List}
use Rattle.rank_shape.specs.declared.any_shape.AnyShape.{AnyShape}
use Rattle.rank_shape.specs.declared.any_shape.AnyShape.TheVariants as ranked

abbrev pub extents_of : AnyShape → List ℕ
extents_of (ranked.One shape) = shape
extents_of (ranked.Two shape) = shape
extents_of (ranked.Three shape) = shape
extents_of (ranked.Four shape) = shape
extents_of (ranked.Five shape) = shape
extents_of (ranked.Six shape) = shape
extents_of (ranked.Seven shape) = shape
