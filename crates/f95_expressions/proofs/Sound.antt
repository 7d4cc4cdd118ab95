-- What the machine has read is spelled as what it took, and is well formed.
use Rattle.std.proofs.Common.{◌≡◌, ℕ, ◌≤◌, Bool, true, nat_le, List, [], ◌∷◌, ◌++◌, Option, Some, None, sym}
use Rattle.std.proofs.Common.{◌∙◌, ap, subst, refl, append_assoc, append-nil, arith}
use Rattle.std.specs.Prelude.{option_map, if◌then◌else◌}
use Rattle.std.proofs.lemmas.Bool.{leb-true, le-leb, and_parts, and_from}
use Rattle.a95_base.proofs.Tests.{by_test}
use Rattle.f95_tree.specs.declared.expression.Expression.{Expression, out-Expression}
use Rattle.f95_tree.specs.declared.expression.Expression.TheVariants as e
use Rattle.f95_tree.specs.declared.expression.Expression.TheOpen as layer
use Rattle.f95_tree.specs.declared.expression.Reference.{Reference, out-Reference}
use Rattle.f95_tree.specs.declared.expression.Reference.TheVariants as r
use Rattle.f95_tree.specs.declared.expression.Value.{Value}
use Rattle.f95_tree.specs.declared.expression.Value.TheVariants as v
use Rattle.f95_tree.specs.declared.expression.Item.{Item}
use Rattle.f95_tree.specs.declared.expression.Item.TheVariants as i
use Rattle.f95_tree.specs.declared.terminal.Terminal.{Terminal}
use Rattle.f95_tree.specs.declared.terminal.Terminal.TheVariants as terminal
use Rattle.f95_tree.specs.declared.terminal.Operator.{Operator}
use Rattle.f95_tree.specs.declared.terminal.Operator.TheVariants as operator
use Rattle.f95_tree.specs.declared.terminal.Sign.{Sign}
use Rattle.f95_tree.specs.declared.terminal.Sign.TheVariants as sign
use Rattle.f95_tree.specs.declared.terminal.Punctuation.{Punctuation}
use Rattle.f95_tree.specs.declared.terminal.Punctuation.TheVariants as mark
use Rattle.f95_tree.specs.Levels.{level, left_of, right_of, sign_level, under_sign}
use Rattle.f95_tree.specs.Spelling.{Text, punctuated, maybe, sign_terminal}
use Rattle.f95_tree.specs.Spelling.{expression, reference, value}
use Rattle.f95_tree.specs.Grades.{Grade, maybe_well, grade, well, well_reference, well_value}
use Rattle.f95_tree.proofs.Nodes.{expression-Literal, expression-Reference}
use Rattle.f95_tree.proofs.Nodes.{expression-Signed, expression-Binary, reference-Whole}
use Rattle.f95_tree.proofs.Nodes.{reference-Items, value-One, grade-Literal, grade-Reference}
use Rattle.f95_tree.proofs.Nodes.{grade-Signed, grade-Binary}
use Rattle.f95_tree.proofs.Nodes.{well_reference-Whole, well_reference-Items}
use Rattle.f95_tree.proofs.Nodes.{well_value-One}
use Rattle.f95_tree.proofs.Views.{seen-Literal, seen-Reference, seen-Bracketed, seen-Constructor, seen-Signed, seen-Binary}
use Rattle.f95_tree.proofs.Views.{seen-Whole, seen-Items, seen-Substring}
use Rattle.f95_tree.proofs.Induction.{expression_cases, reference_cases}
use Rattle.f95_expressions.specs.declared.pending.Field.{Field}
use Rattle.f95_expressions.specs.declared.pending.Spread.{Spread}
use Rattle.f95_expressions.specs.declared.pending.Spread.TheVariants as spread
use Rattle.f95_expressions.specs.declared.pending.Bracket.{Bracket}
use Rattle.f95_expressions.specs.declared.pending.Bracket.TheVariants as kind
use Rattle.f95_expressions.specs.declared.pending.Stage.{Stage}
use Rattle.f95_expressions.specs.declared.pending.Stage.TheVariants as stage
use Rattle.f95_expressions.specs.declared.pending.Pending.TheVariants as pending
use Rattle.f95_expressions.specs.declared.pending.Held.{Held}
use Rattle.f95_expressions.specs.declared.pending.Machine.{Machine}
use Rattle.f95_expressions.specs.declared.pending.Machine.TheVariants as machine
use Rattle.f95_expressions.specs.Fields.{spread_text, left_text, field_text, done_text, fields_text, well_spread, well_field}
use Rattle.f95_expressions.specs.Fields.{well_fields}
use Rattle.f95_expressions.specs.Machine.{Stack, Found, asked, held, reduce, operated, signed}
use Rattle.f95_expressions.specs.Machine.{lone, plain, field, fresh, parted, closed, with_stage, with_left, made}
use Rattle.f95_expressions.specs.Machine.{is_closed_by, separated, separated_in, first_mark}
use Rattle.f95_expressions.specs.Machine.{first_operator, first_step, opened, opened_reference, ended_by, next_mark, next_step}
use Rattle.f95_expressions.specs.Machine.{did_step, step, run, ended, row_of}
use Rattle.f95_expressions.specs.Machine.{spread_of, coloned, assigned, field_of}
use Rattle.f95_expressions.proofs.State.{opening, stage_text, stack_text, well_bracket, well_stage, Opened, Sits}
use Rattle.f95_expressions.proofs.State.{Good}
use Rattle.f95_expressions.proofs.Made.{made_good}
use Rattle.f95_expressions.proofs.Read.{mapped, lone_sound}

-- ---- operators

-- an expression on top of a stack, at least this tight, spelled with it so
pub record Reduced (h : Held) (t : Text) : Type 0 where
  pub spelled : stack_text h.stack ++ expression h.expression ≡ t
  pub sits : Sits h.stack
  pub kept : well h.expression ≡ true
  pub tight : asked h.stack ≤ (grade h.expression).0

reduced_here : (s : Stack) (x : Expression) (t : Text) → stack_text s ++ expression x ≡ t → Sits s → well x ≡ true →
    asked s ≤ (grade x).0 → Reduced (held s x) t
reduced_here s x t is sits w a = record { spelled = is; sits = sits; kept = w; tight = a }

binary_well : (op : Operator) (a b : Expression) → left_of op ≤ (grade a).0 → well a ≡ true → right_of op ≤ (grade b).0 →
    well b ≡ true → well (e.Binary op a b) ≡ true
binary_well op a b la wa lb wb = ap (λ (g : Grade). g.1) (grade-Binary op a b)
    ∙ and_from _ _ (and_from _ _ (le-leb _ _ la) wa) (and_from _ _ (le-leb _ _ lb) wb)

signed_well : (g : Sign) (x : Expression) → under_sign g ≤ (grade x).0 → well x ≡ true → well (e.Signed g x) ≡ true
signed_well g x l w = ap (λ (g : Grade). g.1) (grade-Signed g x) ∙ and_from _ _ (le-leb _ _ l) w

level_binary : (op : Operator) (a b : Expression) → (grade (e.Binary op a b)).0 ≡ level op
level_binary op a b = ap (λ (g : Grade). g.0) (grade-Binary op a b)

level_signed : (g : Sign) (x : Expression) → (grade (e.Signed g x)).0 ≡ sign_level g
level_signed g x = ap (λ (g : Grade). g.0) (grade-Signed g x)

pub reduce_good : (l : ℕ) (s : Stack) (x : Expression) (t : Text) → stack_text s ++ expression x ≡ t → Sits s → well x ≡ true →
    asked s ≤ (grade x).0 →
    Reduced (reduce l s x) t
reduce_good l [] x t is sits w a = reduced_here [] x t is sits w a
reduce_good l (pending.Left y op ∷ s) x t is sits w a =
    by_test (λ b. Reduced (if b then reduce l s (e.Binary op y x) else held (pending.Left y op ∷ s) x) t) (nat_le l (level op))
    (λ h. reduce_good l s (e.Binary op y x) t
    (ap (λ u. stack_text s ++ u) (expression-Binary op y x) ∙ sym
    (append_assoc (stack_text s) (expression y ++ terminal.Operator op ∷ []) (expression x)
    ∙ ap (λ u. stack_text s ++ u) (append_assoc (expression y) (terminal.Operator op ∷ []) (expression x))) ∙ is)
    sits.3 (binary_well op y x sits.1 sits.2 a w) (omega (arith, sits.0, level_binary op y x)))
    (λ h. reduced_here (pending.Left y op ∷ s) x t is sits w a)
reduce_good l (pending.Before g ∷ s) x t is sits w a =
    by_test (λ b. Reduced (if b then reduce l s (e.Signed g x) else held (pending.Before g ∷ s) x) t) (nat_le l (sign_level g))
    (λ h. reduce_good l s (e.Signed g x) t
    (ap (λ u. stack_text s ++ u) (expression-Signed g x) ∙ sym (append_assoc (stack_text s) (sign_terminal g ∷ []) (expression x))
    ∙ is)
    sits.1 (signed_well g x a w) (omega (arith, sits.0, level_signed g x)))
    (λ h. reduced_here (pending.Before g ∷ s) x t is sits w a)
reduce_good l (pending.Open k d left g ∷ s) x t is sits w a = reduced_here (pending.Open k d left g ∷ s) x t is sits w a

-- what is left of an operator binds as tightly as it asks
tight_reduce : (o : Operator) (s : Stack) (x : Expression) → left_of o ≤ (grade x).0 →
    left_of o ≤ (grade (reduce (left_of o) s x).expression).0
tight_reduce o [] x h = h
tight_reduce o (pending.Left y op ∷ s) x h =
    by_test (λ b. left_of o
    ≤ (grade (if b then reduce (left_of o) s (e.Binary op y x) else held (pending.Left y op ∷ s) x).expression).0)
    (nat_le (left_of o) (level op))
    (λ t. tight_reduce o s (e.Binary op y x) (omega (arith, leb-true _ _ t, level_binary op y x)))
    (λ _. h)
tight_reduce o (pending.Before g ∷ s) x h =
    by_test (λ b. left_of o
    ≤ (grade (if b then reduce (left_of o) s (e.Signed g x) else held (pending.Before g ∷ s) x).expression).0)
    (nat_le (left_of o) (sign_level g))
    (λ t. tight_reduce o s (e.Signed g x) (omega (arith, leb-true _ _ t, level_signed g x)))
    (λ _. h)
tight_reduce o (pending.Open k d left g ∷ s) x h = h

operated_good : (op : Operator) (h : Held) (t : Text) → Reduced h t → left_of op ≤ (grade h.expression).0 →
    Good (operated op h) (t ++ terminal.Operator op ∷ [])
operated_good op h t r l =
    by_test (λ b. Good (if b then machine.Waits (pending.Left h.expression op ∷ h.stack) else machine.Stops)
    (t ++ terminal.Operator op ∷ [])) (nat_le (asked h.stack) (level op))
    (λ q. (
      sym (append_assoc (stack_text h.stack) (expression h.expression) (terminal.Operator op ∷ []))
          ∙ ap (λ u. u ++ terminal.Operator op ∷ []) r.spelled,
      (leb-true _ _ q, l, r.kept, r.sits),
    ))
    (λ q. tt)

signed_good : (g : Sign) (s : Stack) (t : Text) → stack_text s ≡ t → Sits s → Good (signed g s) (t ++ sign_terminal g ∷ [])
signed_good g s t is sits =
    by_test (λ b. Good (if b then machine.Waits (pending.Before g ∷ s) else machine.Stops) (t ++ sign_terminal g ∷ []))
    (nat_le (asked s) (sign_level g))
    (λ q. (ap (λ u. u ++ sign_terminal g ∷ []) is, (leb-true _ _ q, sits)))
    (λ q. tt)

-- ---- parts of fields

abbrev pub maybe_value : Option Value → Text
maybe_value w = maybe (option_map value w)

abbrev pub maybe_well_value : Option Value → Bool
maybe_well_value None = true
maybe_well_value (Some w) = well_value w

one_well : (w : Value) (x : Expression) → lone w ≡ Some x → well_value w ≡ true → well x ≡ true
one_well w x h q = sym (well_value-One x) ∙ ap well_value (sym (lone_sound w x h)) ∙ q

one_text : (w : Value) (x : Expression) → lone w ≡ Some x → value w ≡ expression x
one_text w x h = ap value (lone_sound w x h) ∙ value-One x

-- what may be absent, seen as an expression
pub record Plainly (last : Option Value) (o : Option Expression) : Type 0 where
  pub spelled : maybe_value last ≡ maybe (option_map expression o)
  pub kept : maybe_well_value last ≡ true → maybe_well (option_map grade o) ≡ true

plain_sound : (last : Option Value) (o : Option Expression) → plain last ≡ Some o → Plainly last o
plain_sound None o h = let q : None ≡ o = cc in subst (Plainly None) q record { spelled = refl; kept = λ w. w }
plain_sound (Some w) o h =
    mapped Some (lone w) o h (λ x hx is. subst (Plainly (Some w)) is record { spelled = one_text w x hx; kept = one_well w x hx })

pub record Spelled (g : Stage) (last : Option Value) (sp : Spread) : Type 0 where
  pub spelled : stage_text g ++ maybe_value last ≡ spread_text sp
  pub kept : well_stage g ≡ true → maybe_well_value last ≡ true → well_spread sp ≡ true

upper_spelled : (a : Option Expression) (last : Option Value) (o : Option Expression) → Plainly last o →
    Spelled (stage.Upper a) last (spread.Triplet a o None)
upper_spelled a last o p = record {
  spelled = append_assoc (maybe (option_map expression a)) (punctuated mark.Colon []) (maybe_value last)
      ∙ ap (λ u. maybe (option_map expression a) ++ punctuated mark.Colon u)
      (p.spelled ∙ sym (append-nil (maybe (option_map expression o))));
  kept = λ ws wl. and_from _ _ ws (and_from _ _ (p.kept wl) refl);
}

stride_spelled : (a b : Option Expression) (w : Value) (x : Expression) → lone w ≡ Some x →
    Spelled (stage.Stride a b) (Some w) (spread.Triplet a b (Some x))
stride_spelled a b w x h = record {
  spelled =
      append_assoc (maybe (option_map expression a))
      (punctuated mark.Colon (maybe (option_map expression b) ++ punctuated mark.Colon [])) (value w)
      ∙ ap (λ u. maybe (option_map expression a) ++ punctuated mark.Colon u)
      (append_assoc (maybe (option_map expression b)) (punctuated mark.Colon []) (value w)
      ∙ ap (λ u. maybe (option_map expression b) ++ punctuated mark.Colon u) (one_text w x h));
  kept = λ ws wl. let both_well = and_parts _ _ ws in and_from _ _ both_well.0 (and_from _ _ both_well.1 (one_well w x h wl));
}

spread_sound : (g : Stage) (last : Option Value) (sp : Spread) → spread_of g last ≡ Some sp → Spelled g last sp
spread_sound stage.Start None sp h = let q : spread.Empty ≡ sp = cc in
    subst (Spelled stage.Start None) q record { spelled = refl; kept = λ _ _. refl }
spread_sound stage.Start (Some w) sp h = let q : spread.One w ≡ sp = cc in
    subst (Spelled stage.Start (Some w)) q record { spelled = refl; kept = λ _ l. l }
spread_sound (stage.Upper a) last sp h = mapped (λ upper. spread.Triplet a upper None) (plain last) sp h
    (λ o ho is. subst (Spelled (stage.Upper a) last) is (upper_spelled a last o (plain_sound last o ho)))
spread_sound (stage.Stride a b) None sp h = absurd (cc)
spread_sound (stage.Stride a b) (Some w) sp h = mapped (λ step. spread.Triplet a b (Some step)) (lone w) sp h
    (λ x hx is. subst (Spelled (stage.Stride a b) (Some w)) is (stride_spelled a b w x hx))

-- a stage behind a colon
pub record Coloned (g : Stage) (last : Option Value) (next : Stage) : Type 0 where
  pub spelled : stage_text next ≡ stage_text g ++ (maybe_value last ++ punctuated mark.Colon [])
  pub kept : well_stage g ≡ true → maybe_well_value last ≡ true → well_stage next ≡ true

coloned_sound : (g : Stage) (last : Option Value) (next : Stage) → coloned g last ≡ Some next → Coloned g last next
coloned_sound stage.Start last next h = mapped stage.Upper (plain last) next h (λ o ho is.
    let p = plain_sound last o ho in
    subst (Coloned stage.Start last) is record
    { spelled = ap (λ u. u ++ punctuated mark.Colon []) (sym p.spelled); kept = λ _ wl. p.kept wl })
coloned_sound (stage.Upper a) last next h = mapped (stage.Stride a) (plain last) next h (λ o ho is.
    let p = plain_sound last o ho in
    subst (Coloned (stage.Upper a) last) is record {
      spelled = ap (λ u. maybe (option_map expression a) ++ punctuated mark.Colon (u ++ punctuated mark.Colon [])) (sym p.spelled)
          ∙ sym (append_assoc (maybe (option_map expression a)) (punctuated mark.Colon [])
          (maybe_value last ++ punctuated mark.Colon []));
      kept = λ ws wl. and_from _ _ ws (p.kept wl);
    })
coloned_sound (stage.Stride a b) last next h = absurd (cc)

-- ---- separators

-- what a bracket has read, with its stack, and what was read last
abbrev open_text : Bracket → List Field → Option Expression → Stage → Stack → Option Value → Text
open_text k d left g s last = stack_text (pending.Open k d left g ∷ s) ++ maybe_value last

abbrev closer_test : Bracket → List Field → Stack → Option Field → Punctuation → Machine
closer_test k d s o p = if is_closed_by k p then closed k d s o else machine.Stops

parted_text : (s o d f : Text) (p : Punctuation) → s ++ (o ++ ((d ++ (f ++ punctuated p [])) ++ [])) ≡ (s ++ (o ++ (d ++ f)))
    ++ punctuated p []
parted_text s o d f p = simp (append_assoc, append-nil)

closed_text : (s o d f : Text) (p : Punctuation) → s ++ (o ++ ((d ++ f) ++ punctuated p [])) ≡ (s ++ (o ++ (d ++ f)))
    ++ punctuated p []
closed_text s o d f p = simp append_assoc

stage_behind : (s o d l g last : Text) (p : Punctuation) → s ++ (o ++ (d ++ (l ++ (g ++ (last ++ punctuated p [])))))
    ≡ ((s ++ (o ++ (d ++ (l ++ g)))) ++ last) ++ punctuated p []
stage_behind s o d l g last p = simp append_assoc

left_behind : (s o d x : Text) (p : Punctuation) → s ++ (o ++ (d ++ ((x ++ punctuated p []) ++ [])))
    ≡ ((s ++ (o ++ (d ++ []))) ++ x) ++ punctuated p []
left_behind s o d x p = simp (append_assoc, append-nil)

module _ (k : Bracket) (d : List Field) (left : Option Expression) (g : Stage) (s : Stack) (last : Option Value)
    (opened : Opened k d left g) (sits : Sits s) (kept : maybe_well_value last ≡ true) where
  field_well : (sp : Spread) → Spelled g last sp → well_field (field left sp) ≡ true
  field_well sp is = and_from _ _ opened.left_well (is.kept opened.stage_well kept)

  field_text_is : (sp : Spread) → Spelled g last sp → open_text k d left g s last ≡ stack_text s
      ++ (opening k ++ (done_text d ++ field_text (field left sp)))
  field_text_is sp is =
      append_assoc (stack_text s) (opening k ++ (done_text d ++ (left_text left ++ stage_text g))) (maybe_value last)
      ∙ ap (λ t. stack_text s ++ t) (append_assoc (opening k) (done_text d ++ (left_text left ++ stage_text g)) (maybe_value last)
      ∙ ap (λ t. opening k ++ t) (append_assoc (done_text d) (left_text left ++ stage_text g) (maybe_value last)
      ∙ ap (λ t. done_text d ++ t)
      (append_assoc (left_text left) (stage_text g) (maybe_value last) ∙ ap (λ t. left_text left ++ t) is.spelled)))

  parted_good : (f : Field) → field_of left g last ≡ Some f →
      Good (fresh k (f ∷ d) s) (open_text k d left g s last ++ punctuated mark.Comma [])
  parted_good f h = mapped (field left) (spread_of g last) f h (λ sp hsp is.
      let spelled = spread_sound g last sp hsp in
      subst (λ f. Good (fresh k (f ∷ d) s) (open_text k d left g s last ++ punctuated mark.Comma [])) is (
        parted_text (stack_text s) (opening k) (done_text d) (field_text (field left sp)) mark.Comma
            ∙ ap (λ t. t ++ punctuated mark.Comma []) (sym (field_text_is sp spelled)),
        (
          record {
            bracket_well = opened.bracket_well;
            done_well = and_from _ _ opened.done_well (field_well sp spelled);
            left_well =
                refl;
            stage_well = refl;
          },
          sits,
        ),
      ))

  parted_all : (o : Option Field) → field_of left g last ≡ o →
      Good (parted k d s o) (open_text k d left g s last ++ punctuated mark.Comma [])
  parted_all None h = tt
  parted_all (Some f) h = parted_good f h

  closed_good : (p : Punctuation) → is_closed_by k p ≡ true → (f : Field) → field_of left g last ≡ Some f →
      Good (made k (f ∷ d) s) (open_text k d left g s last ++ punctuated p [])
  closed_good p c f h = mapped (field left) (spread_of g last) f h (λ sp hsp is.
      let spelled = spread_sound g last sp hsp in
      subst (λ f. Good (made k (f ∷ d) s) (open_text k d left g s last ++ punctuated p [])) is
      (subst (Good (made k (field left sp ∷ d) s))
      (closed_text (stack_text s) (opening k) (done_text d) (field_text (field left sp)) p
      ∙ ap (λ t. t ++ punctuated p []) (sym (field_text_is sp spelled)))
      (made_good k (field left sp ∷ d) s p c opened.bracket_well (and_from _ _ opened.done_well (field_well sp spelled)) sits)))

  closed_all : (p : Punctuation) → is_closed_by k p ≡ true → (o : Option Field) → field_of left g last ≡ o →
      Good (closed k d s o) (open_text k d left g s last ++ punctuated p [])
  closed_all p c None h = tt
  closed_all p c (Some f) h = closed_good p c f h

  closer_good : (p : Punctuation) → Good (closer_test k d s (field_of left g last) p)
      (open_text k d left g s last ++ punctuated p [])
  closer_good p =
      by_test (λ b. Good (if b then closed k d s (field_of left g last) else machine.Stops)
      (open_text k d left g s last ++ punctuated p [])) (is_closed_by k p)
      (λ c. closed_all p c (field_of left g last) refl) (λ _. tt)

  colon_all : (o : Option Stage) → coloned g last ≡ o → Good (with_stage k d left s o)
      (open_text k d left g s last ++ punctuated mark.Colon [])
  colon_all None h = tt
  colon_all (Some next) h =
      let c = coloned_sound g last next h in (
        ap (λ t. stack_text s ++ (opening k ++ (done_text d ++ (left_text left ++ t)))) c.spelled
            ∙ stage_behind (stack_text s) (opening k) (done_text d) (left_text left) (stage_text g) (maybe_value last) mark.Colon,
        (
          record {
            bracket_well = opened.bracket_well;
            done_well = opened.done_well;
            left_well = opened.left_well;
            stage_well =
                c.kept opened.stage_well kept;
          },
          sits,
        ),
      )

left_all : (k : Bracket) (d : List Field) (s : Stack) (w : Value) → Opened k d None stage.Start → Sits s → well_value w ≡ true →
    (o : Option Expression) → lone w ≡ o →
    Good (with_left k d s o) (open_text k d None stage.Start s (Some w) ++ punctuated mark.Assign [])
left_all k d s w opened sits kept None h = tt
left_all k d s w opened sits kept (Some x) h = (
  left_behind (stack_text s) (opening k) (done_text d) (expression x) mark.Assign
      ∙ ap (λ t. (stack_text (pending.Open k d None stage.Start ∷ s) ++ t) ++ punctuated mark.Assign []) (sym (one_text w x h)),
  (
    record { bracket_well = opened.bracket_well; done_well = opened.done_well; left_well = one_well w x h kept; stage_well = refl },
    sits,
  ),
)

assign_all : (k : Bracket) (d : List Field) (left : Option Expression) (g : Stage) (s : Stack) (last : Option Value) →
    Opened k d left g → Sits s → maybe_well_value last ≡ true →
    Good (with_left k d s (assigned left g last)) (open_text k d left g s last ++ punctuated mark.Assign [])
assign_all k d None stage.Start s None opened sits kept = tt
assign_all k d None stage.Start s (Some w) opened sits kept = left_all k d s w opened sits kept (lone w) refl
assign_all k d None (stage.Upper a) s last opened sits kept = tt
assign_all k d None (stage.Stride a b) s last opened sits kept = tt
assign_all k d (Some x) g s last opened sits kept = tt

separated_good_in : (k : Bracket) (d : List Field) (left : Option Expression) (g : Stage) (s : Stack) (last : Option Value) →
    Opened k d left g → Sits s → maybe_well_value last ≡ true →
    (p : Punctuation) → Good (separated_in k d left g s last p) (open_text k d left g s last ++ punctuated p [])
separated_good_in k d left g s last opened sits kept mark.Comma =
    parted_all k d left g s last opened sits kept (field_of left g last) refl
separated_good_in k d left g s last opened sits kept mark.Colon = colon_all k d left g s last opened sits kept (coloned g last) refl
separated_good_in k d left g s last opened sits kept mark.Assign = assign_all k d left g s last opened sits kept
separated_good_in k d left g s last opened sits kept mark.Close = closer_good k d left g s last opened sits kept mark.Close
separated_good_in k d left g s last opened sits kept mark.CloseArray =
    closer_good k d left g s last opened sits kept mark.CloseArray
separated_good_in k d left g s last opened sits kept mark.DoubleColon = tt
separated_good_in k d left g s last opened sits kept p = tt

separated_good : (s : Stack) (last : Option Value) (p : Punctuation) → Sits s → maybe_well_value last ≡ true →
    Good (separated s last p) ((stack_text s ++ maybe_value last) ++ punctuated p [])
separated_good [] last p sits kept = tt
separated_good (pending.Left a op ∷ s) last p sits kept = tt
separated_good (pending.Before h ∷ s) last p sits kept = tt
separated_good (pending.Open k d left g ∷ s) last p sits kept = separated_good_in k d left g s last sits.0 sits.1 kept p

-- ---- steps

fresh_good : (k : Bracket) (s : Stack) → well_bracket k ≡ true → Sits s → Good (fresh k [] s) (stack_text s ++ opening k)
fresh_good k s w sits = (
  ap (λ t. stack_text s ++ t) (append-nil (opening k)),
  (record { bracket_well = w; done_well = refl; left_well = refl; stage_well = refl }, sits),
)

first_mark_good : (s : Stack) (p : Punctuation) → Sits s → Good (first_mark s p) (stack_text s ++ punctuated p [])
first_mark_good s mark.Open sits = fresh_good kind.Plain s refl sits
first_mark_good s mark.OpenArray sits = fresh_good kind.Array s refl sits
first_mark_good s mark.Close sits = subst (λ t. Good (separated s None mark.Close) (t ++ punctuated mark.Close []))
    (append-nil (stack_text s)) (separated_good s None mark.Close sits refl)
first_mark_good s p sits = subst (λ t. Good (separated s None p) (t ++ punctuated p [])) (append-nil (stack_text s))
    (separated_good s None p sits refl)

first_operator_good : (s : Stack) (op : Operator) → Sits s → Good (first_operator s op) (stack_text s ++ terminal.Operator op ∷ [])
first_operator_good s operator.Add sits = signed_good sign.Plus s (stack_text s) refl sits
first_operator_good s operator.Subtract sits = signed_good sign.Minus s (stack_text s) refl sits
first_operator_good s operator.Power sits = tt
first_operator_good s op sits = tt

first_good : (s : Stack) (t : Terminal) → Sits s → Good (first_step s t) (stack_text s ++ t ∷ [])
first_good s (terminal.Literal l) sits =
    record { spelled = ap (λ t. stack_text s ++ t) (expression-Literal l); sits = sits; operand = grade-Literal l }
first_good s (terminal.Name n) sits = record {
  spelled = ap (λ t. stack_text s ++ t) (expression-Reference (r.Whole n) ∙ reference-Whole n);
  sits = sits;
  operand = grade-Reference (r.Whole n) ∙ ap (λ b. (10, b)) (well_reference-Whole n);
}
first_good s (terminal.Operator op) sits = first_operator_good s op sits
first_good s terminal.Not sits = signed_good sign.Not s (stack_text s) refl sits
first_good s (terminal.Punctuation p) sits = first_mark_good s p sits
first_good s (terminal.Keyword k) sits = tt
first_good s t sits = tt

operand_well : (x : Expression) (b : Bool) → grade x ≡ (10, b) → grade x ≡ (10, true) → b ≡ true
operand_well x b is h = ap (λ (g : Grade). g.1) (sym is ∙ h)

-- a reference before an opening bracket
abbrev ReferenceOpens : Reference → Type 0
ReferenceOpens x = (s : Stack) → Sits s → well_reference x ≡ true →
    Good (opened_reference s (out-Reference x)) ((stack_text s ++ reference x) ++ punctuated mark.Open [])

reference_opens : (x : Reference) → ReferenceOpens x
reference_opens = reference_cases ReferenceOpens
    (λ n s sits w. subst (λ y. Good (opened_reference s y) ((stack_text s ++ reference (r.Whole n)) ++ punctuated mark.Open []))
    (sym (seen-Whole n))
    (subst (Good (fresh (kind.Behind n) [] s))
    (sym (append_assoc (stack_text s) (reference (r.Whole n)) (punctuated mark.Open [])
    ∙ ap (λ t. stack_text s ++ (t ++ punctuated mark.Open [])) (reference-Whole n)))
    (fresh_good (kind.Behind n) s refl sits)))
    (λ n xs s sits w. subst
    (λ y. Good (opened_reference s y) ((stack_text s ++ reference (r.Items n xs)) ++ punctuated mark.Open []))
    (sym (seen-Items n xs))
    (subst (Good (fresh (kind.Part n xs) [] s))
    (sym (append_assoc (stack_text s) (reference (r.Items n xs)) (punctuated mark.Open [])
    ∙ ap (λ t. stack_text s ++ (t ++ punctuated mark.Open [])) (reference-Items n xs)))
    (fresh_good (kind.Part n xs) s (sym (well_reference-Items n xs) ∙ w) sits)))
    (λ n xs a b s sits w. subst
    (λ y. Good (opened_reference s y) ((stack_text s ++ reference (r.Substring n xs (a, b))) ++ punctuated mark.Open []))
    (sym (seen-Substring n xs a b)) tt)

abbrev Opens : Expression → Type 0
Opens x = (s : Stack) → Sits s → grade x ≡ (10, true) → Good (opened s (out-Expression x))
    ((stack_text s ++ expression x) ++ punctuated mark.Open [])

opens : (x : Expression) → Opens x
opens = expression_cases Opens record {
  on_literal = λ l s sits h. subst (λ y. Good (opened s y) ((stack_text s ++ expression (e.Literal l)) ++ punctuated mark.Open []))
      (sym (seen-Literal l)) tt;
  on_reference =
      λ x s sits h. subst (λ y. Good (opened s y) ((stack_text s ++ expression (e.Reference x)) ++ punctuated mark.Open []))
      (sym (seen-Reference x))
      (subst (λ t. Good (opened_reference s (out-Reference x)) ((stack_text s ++ t) ++ punctuated mark.Open []))
      (sym (expression-Reference x))
      (reference_opens x s sits (operand_well (e.Reference x) (well_reference x) (grade-Reference x) h)));
  on_bracketed =
      λ x s sits h. subst (λ y. Good (opened s y) ((stack_text s ++ expression (e.Bracketed x)) ++ punctuated mark.Open []))
      (sym (seen-Bracketed x)) tt;
  on_constructor =
      λ vs s sits h. subst (λ y. Good (opened s y) ((stack_text s ++ expression (e.Constructor vs)) ++ punctuated mark.Open []))
      (sym (seen-Constructor vs)) tt;
  on_signed =
      λ g x s sits h. subst (λ y. Good (opened s y) ((stack_text s ++ expression (e.Signed g x)) ++ punctuated mark.Open []))
      (sym (seen-Signed g x)) tt;
  on_binary =
      λ op a b s sits h. subst (λ y. Good (opened s y) ((stack_text s ++ expression (e.Binary op a b)) ++ punctuated mark.Open []))
      (sym (seen-Binary op a b)) tt;
}

right_bound : (o : Operator) → right_of o ≤ 10
right_bound operator.Power = omega arith
right_bound o = omega arith

left_bound : (o : Operator) → left_of o ≤ 10
left_bound operator.Power = omega arith
left_bound o = omega arith

sign_bound : (g : Sign) → under_sign g ≤ 10
sign_bound sign.Not = omega arith
sign_bound g = omega arith

asked_bound : (s : Stack) → asked s ≤ 10
asked_bound [] = omega arith
asked_bound (pending.Left a op ∷ s) = right_bound op
asked_bound (pending.Before g ∷ s) = sign_bound g
asked_bound (pending.Open k d left g ∷ s) = omega arith

level_of_operand : (x : Expression) → grade x ≡ (10, true) → (grade x).0 ≡ 10
level_of_operand x h = ap (λ (g : Grade). g.0) h

reduced : (l : ℕ) (s : Stack) (x : Expression) → Sits s → grade x ≡ (10, true) →
    Reduced (reduce l s x) (stack_text s ++ expression x)
reduced l s x sits h = reduce_good l s x (stack_text s ++ expression x) refl sits (ap (λ (g : Grade). g.1) h)
    (omega (arith, asked_bound s, level_of_operand x h))

ended_good : (h : Held) (t : Text) (p : Punctuation) → Reduced h t → Good (ended_by h p) (t ++ punctuated p [])
ended_good h t p r = subst (λ u. Good (ended_by h p) (u ++ punctuated p []))
    (ap (λ u. stack_text h.stack ++ u) (value-One h.expression) ∙ r.spelled)
    (separated_good h.stack (Some (v.One h.expression)) p r.sits (well_value-One h.expression ∙ r.kept))

next_mark_good : (s : Stack) (x : Expression) (p : Punctuation) → Sits s → grade x ≡ (10, true) →
    Good (next_mark s x p) ((stack_text s ++ expression x) ++ punctuated p [])
next_mark_good s x mark.Open sits h = opens x s sits h
next_mark_good s x mark.Close sits h = ended_good (reduce 0 s x) (stack_text s ++ expression x) mark.Close (reduced 0 s x sits h)
next_mark_good s x p sits h = ended_good (reduce 0 s x) (stack_text s ++ expression x) p (reduced 0 s x sits h)

next_good : (s : Stack) (x : Expression) (t : Terminal) → Sits s → grade x ≡ (10, true) →
    Good (next_step s x t) ((stack_text s ++ expression x) ++ t ∷ [])
next_good s x (terminal.Operator op) sits h =
    operated_good op (reduce (left_of op) s x) (stack_text s ++ expression x) (reduced (left_of op) s x sits h)
    (tight_reduce op s x (omega (arith, left_bound op, level_of_operand x h)))
next_good s x (terminal.Punctuation p) sits h = next_mark_good s x p sits h
next_good s x terminal.Not sits h = tt
next_good s x t sits h = tt

did_step_good : (s : Stack) (w : Value) (t : Terminal) → Sits s → well_value w ≡ true →
    Good (did_step s w t) ((stack_text s ++ value w) ++ t ∷ [])
did_step_good s w (terminal.Punctuation p) sits h = separated_good s (Some w) p sits h
did_step_good s w terminal.Not sits h = tt
did_step_good s w t sits h = tt

pub step_good : (m : Machine) (t : Terminal) (text : Text) → Good m text → Good (step m t) (text ++ t ∷ [])
step_good (machine.Waits s) t text h = subst (λ u. Good (first_step s t) (u ++ t ∷ [])) h.0 (first_good s t h.1)
step_good (machine.Holds s x) t text h = subst (λ u. Good (next_step s x t) (u ++ t ∷ [])) h.spelled
    (next_good s x t h.sits h.operand)
step_good (machine.Did s w) t text h = subst (λ u. Good (did_step s w t) (u ++ t ∷ [])) h.spelled
    (did_step_good s w t h.sits h.kept)
step_good (machine.Closed fs) t text h = tt
step_good machine.Stops t text h = tt

-- ---- runs

-- what was found has this text
abbrev pub Ends : Found → Text → Type 0
Ends (fs, None) t = (fields_text fs ≡ t) × (well_fields fs ≡ true)
Ends (fs, Some rest) t = (fields_text fs ++ punctuated mark.Close rest ≡ t) × (well_fields fs ≡ true)

row_good : (s : Stack) (last : Option Value) (f : Found) (t : Text) → stack_text s ++ maybe_value last ≡ t → Sits s →
    maybe_well_value last ≡ true → row_of s last ≡ Some f → Ends f t
row_good [] last f t is sits kept h = absurd (cc)
row_good (pending.Left a op ∷ s) last f t is sits kept h = absurd (cc)
row_good (pending.Before g ∷ s) last f t is sits kept h = absurd (cc)
row_good (pending.Open kind.Row d left g ∷ []) last f t is sits kept h =
    mapped (λ (f : Field). (f ∷ d, None)) (field_of left g last) f h (λ field_found hf same.
    mapped (field left) (spread_of g last) field_found hf (λ sp hsp named.
    let spelled = spread_sound g last sp hsp in
    subst (λ f. Ends f t) same (subst (λ f. Ends (f ∷ d, None) t) named (
      sym (field_text_is kind.Row d left g [] last sits.0 sits.1 kept sp spelled) ∙ is,
      and_from _ _ sits.0.done_well (field_well kind.Row d left g [] last sits.0 sits.1 kept sp spelled),
    ))))
row_good (pending.Open kind.Row d left g ∷ p ∷ s) last f t is sits kept h = absurd (cc)
row_good (pending.Open kind.Plain d left g ∷ s) last f t is sits kept h = absurd (cc)
row_good (pending.Open k d left g ∷ s) last f t is sits kept h = absurd (cc)

ended_sound : (m : Machine) (text : Text) (f : Found) → Good m text → ended m ≡ Some f → Ends f text
ended_sound (machine.Waits s) text f h is = row_good s None f text (append-nil (stack_text s) ∙ h.0) h.1 refl is
ended_sound (machine.Holds s x) text f h is =
    let r = reduced 0 s x h.sits h.operand in
    row_good (reduce 0 s x).stack (Some (v.One (reduce 0 s x).expression)) f text
    (ap (λ u. stack_text (reduce 0 s x).stack ++ u) (value-One (reduce 0 s x).expression) ∙ r.spelled ∙ h.spelled) r.sits
    (well_value-One (reduce 0 s x).expression ∙ r.kept) is
ended_sound (machine.Did s w) text f h is = row_good s (Some w) f text h.spelled h.sits h.kept is
ended_sound (machine.Closed fs) text f h is = let q : (fs, Some []) ≡ f = cc in subst (λ f. Ends f text) q h
ended_sound machine.Stops text f h is = absurd (cc)

pub run_sound : (ts : Text) (m : Machine) (text : Text) (f : Found) → Good m text → run m ts ≡ Some f → Ends f (text ++ ts)
run_sound [] m text f h is = subst (Ends f) (sym (append-nil text)) (ended_sound m text f h is)
run_sound (t ∷ ts) (machine.Closed fs) text f h is =
    let q : (fs, Some (t ∷ ts)) ≡ f = cc in
    subst (λ f. Ends f (text ++ t ∷ ts)) q
    (sym (append_assoc (fields_text fs) (punctuated mark.Close []) (t ∷ ts)) ∙ ap (λ u. u ++ t ∷ ts) h.0, h.1)
run_sound (t ∷ ts) (machine.Waits s) text f h is =
    subst (Ends f) (append_assoc text (t ∷ []) ts)
    (run_sound ts (step (machine.Waits s) t) (text ++ t ∷ []) f (step_good (machine.Waits s) t text h) is)
run_sound (t ∷ ts) (machine.Holds s x) text f h is =
    subst (Ends f) (append_assoc text (t ∷ []) ts)
    (run_sound ts (step (machine.Holds s x) t) (text ++ t ∷ []) f (step_good (machine.Holds s x) t text h) is)
run_sound (t ∷ ts) (machine.Did s w) text f h is =
    subst (Ends f) (append_assoc text (t ∷ []) ts)
    (run_sound ts (step (machine.Did s w) t) (text ++ t ∷ []) f (step_good (machine.Did s w) t text h) is)
run_sound (t ∷ ts) machine.Stops text f h is =
    subst (Ends f) (append_assoc text (t ∷ []) ts) (run_sound ts machine.Stops (text ++ t ∷ []) f tt is)
