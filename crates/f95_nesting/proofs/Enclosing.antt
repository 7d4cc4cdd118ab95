-- What is open around a statement, counted and searched from the innermost.
use Rattle.std.proofs.Common.{◌≡◌, ℕ, suc, ◌+◌, Bool, true, false, ◌||◌, List, [], ◌∷◌, ◌++◌, length, reverse, Option, Some, None, ◌∙◌, ap, refl, arith}
use Rattle.std.proofs.lemmas.List.{reverse-append}
use Rattle.f95_nesting.proofs.Sound.{blocks_in}
use Rattle.f95_tree.specs.Forms.{Word}
use Rattle.f95_nesting.specs.declared.open.Block.{Block}
use Rattle.f95_nesting.specs.declared.open.Block.TheVariants as block
use Rattle.f95_nesting.specs.declared.open.Frame.{Frame}
use Rattle.f95_nesting.specs.declared.open.WhereFrame.{WhereFrame}
use Rattle.f95_nesting.specs.Placed.{Context, leaves, in_main, in_procedure, is_named_among}
use Rattle.f95_nesting.specs.Machine.{inside, context, deep}
use Rattle.f95_nesting.specs.Kinds.{unit_context, is_do, is_do_of}

pub wheres_deep : (d : ℕ) (ws : List WhereFrame) → suc (deep d ws) ≡ d + length ws + 1
wheres_deep d [] = omega arith
wheres_deep d (w ∷ ws) = omega (arith, wheres_deep d ws)

blocks_of : (p : Bool) (fs : List Frame) → (context (unit_context p) fs).blocks ≡ length fs
blocks_of p [] = refl
blocks_of p (f ∷ fs) = blocks_in f.block (context (unit_context p) fs) ∙ ap suc (blocks_of p fs)

pub main_blocks : (fs : List Frame) → (context in_main fs).blocks ≡ length fs
main_blocks fs = blocks_of false fs

pub procedure_blocks : (fs : List Frame) → (context in_procedure fs).blocks ≡ length fs
procedure_blocks fs = blocks_of true fs

inside_procedure : (b : Block) (c : Context) → (inside b c).procedure ≡ c.procedure
inside_procedure (block.Do h) c = refl
inside_procedure (block.If _) c = refl
inside_procedure (block.ElseIf _ _ _ _) c = refl
inside_procedure (block.Else _ _ _ _ _) c = refl
inside_procedure (block.Case _ _ _) c = refl

pub unit_procedure : (p : Bool) (fs : List Frame) → (context (unit_context p) fs).procedure ≡ p
unit_procedure p [] = refl
unit_procedure p (f ∷ fs) = inside_procedure f.block (context (unit_context p) fs) ∙ unit_procedure p fs

inside_dos : (b : Block) (c d : Context) → c.dos ≡ d.dos → (inside b c).dos ≡ (inside b d).dos
inside_dos (block.Do h) c d e = ap (λ z. h.name ∷ z) e
inside_dos (block.If _) c d e = e
inside_dos (block.ElseIf _ _ _ _) c d e = e
inside_dos (block.Else _ _ _ _ _) c d e = e
inside_dos (block.Case _ _ _) c d e = e

pub unit_dos : (p : Bool) (fs : List Frame) → (context (unit_context p) fs).dos ≡ (context in_main fs).dos
unit_dos p [] = refl
unit_dos p (f ∷ fs) = inside_dos f.block (context (unit_context p) fs) (context in_main fs) (unit_dos p fs)

-- the innermost block of those that are given the innermost last
innermost : (rest : List Frame) (f : Frame) (n : Option Word)
    → leaves (context in_main (reverse (rest ++ f ∷ []))).dos n ≡ leaves (inside f.block (context in_main (reverse rest))).dos n
innermost rest f n = ap (λ z. leaves (context in_main z).dos n) (reverse-append rest (f ∷ []))

in_do : (b : Block) (c : Context) → is_do b ≡ true → leaves (inside b c).dos None ≡ true
in_do (block.Do h) c e = refl
in_do (block.If _) c e = absurd (cc)
in_do (block.ElseIf _ _ _ _) c e = absurd (cc)
in_do (block.Else _ _ _ _ _) c e = absurd (cc)
in_do (block.Case _ _ _) c e = absurd (cc)

in_other : (b : Block) (c : Context) → is_do b ≡ false → leaves (inside b c).dos None ≡ leaves c.dos None
in_other (block.Do h) c e = absurd (cc)
in_other (block.If _) c e = refl
in_other (block.ElseIf _ _ _ _) c e = refl
in_other (block.Else _ _ _ _ _) c e = refl
in_other (block.Case _ _ _) c e = refl

in_do_of : (n : Word) (b : Block) (c : Context) → is_do_of n b ≡ true → leaves (inside b c).dos (Some n) ≡ true
in_do_of n (block.Do h) c e = ap (λ z. z || is_named_among n c.dos) e
in_do_of n (block.If _) c e = absurd (cc)
in_do_of n (block.ElseIf _ _ _ _) c e = absurd (cc)
in_do_of n (block.Else _ _ _ _ _) c e = absurd (cc)
in_do_of n (block.Case _ _ _) c e = absurd (cc)

in_other_than : (n : Word) (b : Block) (c : Context) → is_do_of n b ≡ false
    → leaves (inside b c).dos (Some n) ≡ leaves c.dos (Some n)
in_other_than n (block.Do h) c e = ap (λ z. z || is_named_among n c.dos) e
in_other_than n (block.If _) c e = refl
in_other_than n (block.ElseIf _ _ _ _) c e = refl
in_other_than n (block.Else _ _ _ _ _) c e = refl
in_other_than n (block.Case _ _ _) c e = refl

pub do_last : (frames rest : List Frame) (f : Frame) → frames ≡ rest ++ f ∷ [] → is_do f.block ≡ true
    → leaves (context in_main (reverse frames)).dos None ≡ true
do_last frames rest f is e =
    ap (λ z. leaves (context in_main (reverse z)).dos None) is ∙ innermost rest f None
    ∙ in_do f.block (context in_main (reverse rest)) e

pub other_last : (frames rest : List Frame) (f : Frame) → frames ≡ rest ++ f ∷ [] → is_do f.block ≡ false
    → leaves (context in_main (reverse frames)).dos None ≡ leaves (context in_main (reverse rest)).dos None
other_last frames rest f is e =
    ap (λ z. leaves (context in_main (reverse z)).dos None) is ∙ innermost rest f None
    ∙ in_other f.block (context in_main (reverse rest)) e

pub named_last : (n : Word) (frames rest : List Frame) (f : Frame) → frames ≡ rest ++ f ∷ [] → is_do_of n f.block ≡ true
    → leaves (context in_main (reverse frames)).dos (Some n) ≡ true
named_last n frames rest f is e =
    ap (λ z. leaves (context in_main (reverse z)).dos (Some n)) is ∙ innermost rest f (Some n)
    ∙ in_do_of n f.block (context in_main (reverse rest)) e

pub unnamed_last : (n : Word) (frames rest : List Frame) (f : Frame) → frames ≡ rest ++ f ∷ [] → is_do_of n f.block ≡ false
    → leaves (context in_main (reverse frames)).dos (Some n) ≡ leaves (context in_main (reverse rest)).dos (Some n)
unnamed_last n frames rest f is e =
    ap (λ z. leaves (context in_main (reverse z)).dos (Some n)) is ∙ innermost rest f (Some n)
    ∙ in_other_than n f.block (context in_main (reverse rest)) e
