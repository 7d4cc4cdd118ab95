-- What closed brackets make of their fields is spelled as they are, and well formed.
use Rattle.std.proofs.Common.{◌≡◌, Bool, true, ◌&&◌, List, [], ◌∷◌, ◌++◌, map, Option, Some, None, sym}
use Rattle.std.proofs.Common.{◌∙◌, ap, subst, refl, append_assoc, append-nil}
use Rattle.std.specs.Prelude.{option_map, option_and_then, if◌then◌else◌}
use Rattle.std.proofs.lemmas.Bool.{and_parts, and_from}
use Rattle.a95_base.proofs.Tests.{by_test}
use Rattle.f95_tree.specs.declared.expression.Expression.{Expression}
use Rattle.f95_tree.specs.declared.expression.Expression.TheVariants as e
use Rattle.f95_tree.specs.declared.expression.Expression.TheOpen as layer
use Rattle.f95_tree.specs.declared.expression.Reference.{Reference}
use Rattle.f95_tree.specs.declared.expression.Reference.TheVariants as r
use Rattle.f95_tree.specs.declared.expression.Value.{Value}
use Rattle.f95_tree.specs.declared.expression.Value.TheVariants as v
use Rattle.f95_tree.specs.declared.expression.Item.{Item}
use Rattle.f95_tree.specs.declared.expression.Item.TheVariants as i
use Rattle.f95_tree.specs.declared.terminal.Terminal.{Terminal}
use Rattle.f95_tree.specs.declared.terminal.Terminal.TheVariants as terminal
use Rattle.f95_tree.specs.declared.terminal.Operator.{Operator}
use Rattle.f95_tree.specs.declared.terminal.Operator.TheVariants as operator
use Rattle.f95_tree.specs.declared.terminal.Sign.{Sign}
use Rattle.f95_tree.specs.declared.terminal.Sign.TheVariants as sign
use Rattle.f95_tree.specs.declared.terminal.Punctuation.{Punctuation}
use Rattle.f95_tree.specs.declared.terminal.Punctuation.TheVariants as mark
use Rattle.f95_tree.specs.Spelling.{Text, punctuated, commas, in_brackets, maybe, maybe_behind}
use Rattle.f95_tree.specs.Spelling.{expression, item, value}
use Rattle.f95_tree.specs.Grades.{Grade, all, some, maybe_well, grade, well, well_item, well_value}
use Rattle.f95_tree.specs.Forms.{Word}
use Rattle.f95_tree.proofs.Nodes.{expression-Reference, expression-Bracketed, expression-Constructor}
use Rattle.f95_tree.proofs.Nodes.{reference-Items, reference-Substring, value-One, value-ImpliedDo, grade-Reference}
use Rattle.f95_tree.proofs.Nodes.{grade-Bracketed, grade-Constructor, well_item-Plain}
use Rattle.f95_tree.proofs.Nodes.{well_item-Keyword, well_item-Triplet, well_reference-Whole, well_reference-Items}
use Rattle.f95_tree.proofs.Nodes.{well_reference-Substring, well_value-One, well_value-ImpliedDo}
use Rattle.f95_tree.proofs.Induction.{item_cases}
use Rattle.f95_expressions.specs.declared.pending.Field.{Field}
use Rattle.f95_expressions.specs.declared.pending.Spread.{Spread}
use Rattle.f95_expressions.specs.declared.pending.Spread.TheVariants as spread
use Rattle.f95_expressions.specs.declared.pending.Bracket.{Bracket}
use Rattle.f95_expressions.specs.declared.pending.Bracket.TheVariants as kind
use Rattle.f95_expressions.specs.declared.pending.Stage.{Stage}
use Rattle.f95_expressions.specs.declared.pending.Stage.TheVariants as stage
use Rattle.f95_expressions.specs.declared.pending.Pending.TheVariants as pending
use Rattle.f95_expressions.specs.declared.pending.Machine.{Machine}
use Rattle.f95_expressions.specs.declared.pending.Machine.TheVariants as machine
use Rattle.f95_expressions.specs.Fields.{spread_text, left_text, field_text, done_text, fields_text, well_field}
use Rattle.f95_expressions.specs.Fields.{well_fields}
use Rattle.f95_expressions.specs.Machine.{Stack}
use Rattle.f95_expressions.specs.Machine.{whole, field, closed, holds, did, made}
use Rattle.f95_expressions.specs.Machine.{made_plain, made_part, part_of, alone, is_closed_by}
use Rattle.f95_expressions.specs.Machine.{step, ended, item_of, items_of, within, is_nothing}
use Rattle.f95_expressions.specs.Machine.{is_nothing_from, value_of, values_of, filled, implied, looped, looped_with_step}
use Rattle.f95_expressions.specs.Machine.{expression_of, index_of, first_in, maybe_expression_of, has_left}
use Rattle.f95_expressions.specs.Machine.{collected}
use Rattle.f95_expressions.proofs.Lists.{onto}
use Rattle.f95_expressions.proofs.Fields.{value_field, expression_field, item_field, item_text}
use Rattle.f95_expressions.proofs.Again.{index_field, index_text}
use Rattle.f95_expressions.proofs.State.{opening, stack_text, well_bracket, Sits, Holding, Doing}
use Rattle.f95_expressions.proofs.State.{Good}
use Rattle.f95_expressions.proofs.Read.{mapped, chained, lone_sound, whole_sound, value_sound, item_sound, expression_sound}
use Rattle.f95_expressions.proofs.Read.{all_collected, list_text, onto_well, item-Plain_field, item-Keyword_field}
use Rattle.f95_expressions.proofs.Read.{item-Triplet_field}

-- ---- values

pub record Valued (vs : List Value) (fs : List Field) : Type 0 where
  pub fields : fs ≡ onto (map value_field vs) []
  pub filled : some (map well_value vs) ≡ true

filled_sound : (ws vs : List Value) (fs : List Field) → fs ≡ onto (map value_field ws) [] → filled ws ≡ Some vs → Valued vs fs
filled_sound [] vs fs is h = absurd (cc)
filled_sound (w ∷ ws) vs fs is h = let q : w ∷ ws ≡ vs = cc in subst (λ vs. Valued vs fs) q record { fields = is; filled = refl }

pub values_sound : (fs : List Field) (vs : List Value) → values_of fs ≡ Some vs → Valued vs fs
values_sound fs vs h = chained filled (collected value_of [] fs) vs h (λ ws hw hf.
    filled_sound ws vs fs (all_collected value_of value_field (λ f w is. value_sound f.left f.spread w is) ws fs hw) hf)

pub values_text : (fs : List Field) (vs : List Value) → Valued vs fs → fields_text fs ≡ commas (map value vs)
values_text fs vs v = ap fields_text v.fields ∙ list_text value_field value (λ w. refl) vs

pub values_well : (fs : List Field) (vs : List Value) → Valued vs fs → well_fields fs ≡ true → all (map well_value vs) ≡ true
values_well fs vs v h = (onto_well value_field well_value (λ w. refl) vs [] (sym (ap well_fields v.fields) ∙ h)).0

-- fields, each with its comma
done_values : (fs : List Field) (vs : List Value) → values_of fs ≡ Some vs → done_text fs ≡ commas (map value vs)
    ++ punctuated mark.Comma []
done_values [] vs h = absurd (cc)
done_values (f ∷ fs) vs h =
    sym (append_assoc (done_text fs) (field_text f) (punctuated mark.Comma []))
    ∙ ap (λ t. t ++ punctuated mark.Comma []) (values_text (f ∷ fs) vs (values_sound (f ∷ fs) vs h))

-- ---- an implied DO

index_sound : (left : Option Expression) (sp : Spread) (n : Word) (a : Expression) → option_and_then whole left ≡ Some n →
    first_in sp ≡ Some a → field left sp ≡ index_field n a
index_sound None sp n a hn ha = absurd (cc)
index_sound (Some l) spread.Empty n a hn ha = absurd (cc)
index_sound (Some l) (spread.Triplet x y z) n a hn ha = absurd (cc)
index_sound (Some l) (spread.One w) n a hn ha =
    ap (λ l. field (Some l) (spread.One w)) (whole_sound l n hn)
    ∙ ap (λ w. field (Some (e.Reference (r.Whole n))) (spread.One w)) (lone_sound w a ha)

-- the parts of an implied DO
pub record Looped (fs : List Field) (index last : Field) (step : Option Field) (w : Value) : Type 0 where
  pub vs : List Value
  pub n : Word
  pub first : Expression
  pub end : Expression
  pub stride : Option Expression
  pub values : values_of fs ≡ Some vs
  pub indexed : index ≡ index_field n first
  pub ended : last ≡ expression_field end
  pub stepped : maybe_expression_of step ≡ Some stride
  pub whole : v.ImpliedDo vs n first end stride ≡ w

looped_sound : (fs : List Field) (index last : Field) (step : Option Field) (w : Value) → looped fs index last step ≡ Some w →
    Looped fs index last step w
looped_sound fs index last step w h =
    chained (λ values. option_and_then
    (λ n. option_and_then (λ from. option_and_then (λ to. option_map (λ by. v.ImpliedDo values n from to by)
    (maybe_expression_of step)) (expression_of last)) (first_in index.spread)) (index_of index)) (values_of fs) w h (λ vs hvs h1.
    chained (λ n. option_and_then (λ from. option_and_then (λ to. option_map (λ by. v.ImpliedDo vs n from to by)
    (maybe_expression_of step)) (expression_of last)) (first_in index.spread)) (index_of index) w h1 (λ n hn h2.
    chained (λ from. option_and_then (λ to. option_map (λ by. v.ImpliedDo vs n from to by)
    (maybe_expression_of step)) (expression_of last)) (first_in index.spread) w h2 (λ from hfrom h3.
    chained (λ to. option_map (λ by. v.ImpliedDo vs n from to by) (maybe_expression_of step)) (expression_of last) w h3
    (λ to hto h4.
    mapped (λ by. v.ImpliedDo vs n from to by) (maybe_expression_of step) w h4 (λ by hby is.
    record {
      vs = vs;
      n = n;
      first = from;
      end = to;
      stride = by;
      values = hvs;
      indexed = index_sound index.left index.spread n from hn hfrom;
      ended = expression_sound last to hto;
      stepped = hby;
      whole = is;
    })))))

-- what stands behind the last value
abbrev pub step_text : Option Field → Text
step_text None = []
step_text (Some f) = punctuated mark.Comma (field_text f)

abbrev pub step_well : Option Field → Bool
step_well None = true
step_well (Some f) = well_field f

pub record Stepped (step : Option Field) (c : Option Expression) : Type 0 where
  pub spelled : step_text step ≡ maybe_behind mark.Comma (option_map expression c)
  pub kept : step_well step ≡ true → maybe_well (option_map grade c) ≡ true

step_sound : (step : Option Field) (c : Option Expression) → maybe_expression_of step ≡ Some c → Stepped step c
step_sound None c h = let q : None ≡ c = cc in subst (Stepped None) q record { spelled = refl; kept = λ _. refl }
step_sound (Some f) c h = mapped Some (expression_of f) c h (λ x hx is. subst (Stepped (Some f)) is record {
  spelled = ap (λ t. punctuated mark.Comma t) (ap field_text (expression_sound f x hx) ∙ value-One x);
  kept = λ w. sym (ap well_field (expression_sound f x hx) ∙ well_value-One x) ∙ w;
})

looped_text : (fs : List Field) (index last : Field) (step : Option Field) (w : Value) → Looped fs index last step w →
    in_brackets ((done_text fs ++ (field_text index ++ punctuated mark.Comma [])) ++ (field_text last ++ step_text step)) ≡ value w
looped_text fs index last step w l =
    ap (λ t. in_brackets ((t ++ (field_text index ++ punctuated mark.Comma [])) ++ (field_text last ++ step_text step)))
    (done_values fs l.vs l.values)
    ∙ ap (λ t. in_brackets
    (((commas (map value l.vs) ++ punctuated mark.Comma []) ++ (t ++ punctuated mark.Comma []))
    ++ (field_text last ++ step_text step))) (ap field_text l.indexed ∙ index_text l.n l.first)
    ∙ ap (λ t. in_brackets
    (((commas (map value l.vs) ++ punctuated mark.Comma [])
    ++ ((terminal.Name l.n ∷ punctuated mark.Assign (expression l.first)) ++ punctuated mark.Comma []))
    ++ (t ++ step_text step))) (ap field_text l.ended ∙ value-One l.end)
    ∙ ap (λ t. in_brackets
    (((commas (map value l.vs) ++ punctuated mark.Comma [])
    ++ ((terminal.Name l.n ∷ punctuated mark.Assign (expression l.first)) ++ punctuated mark.Comma []))
    ++ (expression l.end ++ t))) (step_sound step l.stride l.stepped).spelled
    ∙ ap in_brackets (simp append_assoc)
    ∙ sym (value-ImpliedDo l.vs l.n l.first l.end l.stride) ∙ ap value l.whole

first_well : (n : Word) (x : Expression) → well_field (index_field n x) ≡ true → well x ≡ true
first_well n x h = sym (well_value-One x)
    ∙ (and_parts (maybe_well (option_map grade (Some (e.Reference (r.Whole n))))) (well_value (v.One x)) h).1

looped_well : (fs : List Field) (index last : Field) (step : Option Field) (w : Value) → Looped fs index last step w →
    well_fields fs ≡ true → well_field index ≡ true → well_field last ≡ true → step_well step ≡ true → well_value w ≡ true
looped_well fs index last step w l hf hi hl hs =
    let v = values_sound fs l.vs l.values in
    sym (ap well_value l.whole) ∙ well_value-ImpliedDo l.vs l.n l.first l.end l.stride
    ∙ and_from _ _ (and_from _ _ v.filled (values_well fs l.vs v hf))
    (and_from _ _ (first_well l.n l.first (sym (ap well_field l.indexed) ∙ hi))
    (and_from _ _ (sym (ap well_field l.ended ∙ well_value-One l.end) ∙ hl) ((step_sound step l.stride l.stepped).kept hs)))

-- fields in brackets that are an implied DO
pub record Implied (fs : List Field) (w : Value) : Type 0 where
  pub spelled : in_brackets (fields_text fs) ≡ value w
  pub kept : well_fields fs ≡ true → well_value w ≡ true

looped_implied : (fs : List Field) (y z : Field) (w : Value) → Looped fs y z None w → Implied (z ∷ y ∷ fs) w
looped_implied fs y z w l = record {
  spelled = ap (λ t. in_brackets ((done_text fs ++ (field_text y ++ punctuated mark.Comma [])) ++ t))
      (sym (append-nil (field_text z))) ∙ looped_text fs y z None w l;
  kept = λ h. let hz = and_parts (well_fields fs && well_field y) (well_field z) h in let hy =
      and_parts (well_fields fs) (well_field y) hz.0 in
      looped_well fs y z None w l hy.0 hy.1 hz.1 refl;
}

stepped_implied : (fs : List Field) (x y z : Field) (w : Value) → Looped fs x y (Some z) w → Implied (z ∷ y ∷ x ∷ fs) w
stepped_implied fs x y z w l = record {
  spelled =
      ap in_brackets
      (append_assoc (done_text fs ++ (field_text x ++ punctuated mark.Comma [])) (field_text y ++ punctuated mark.Comma [])
      (field_text z)
      ∙ ap (λ t. (done_text fs ++ (field_text x ++ punctuated mark.Comma [])) ++ t)
      (append_assoc (field_text y) (punctuated mark.Comma []) (field_text z)))
      ∙ looped_text fs x y (Some z) w l;
  kept = λ h. let hz = and_parts ((well_fields fs && well_field x) && well_field y) (well_field z) h in
      let hy = and_parts (well_fields fs && well_field x) (well_field y) hz.0 in let hx = and_parts (well_fields fs) (well_field x) hy.0 in
      looped_well fs x y (Some z) w l hx.0 hx.1 hy.1 hz.1;
}

with_step_sound : (fs : List Field) (y z : Field) (w : Value) → looped_with_step fs y z ≡ Some w → Implied (z ∷ y ∷ fs) w
with_step_sound [] y z w h = absurd (cc)
with_step_sound (x ∷ fs) y z w h = stepped_implied fs x y z w (looped_sound fs x y (Some z) w h)

implied_sound : (fs : List Field) (w : Value) → implied fs ≡ Some w → Implied fs w
implied_sound [] w h = absurd (cc)
implied_sound (z ∷ []) w h = absurd (cc)
implied_sound (z ∷ y ∷ fs) w h =
    by_test (λ b. (if b then looped fs y z None else looped_with_step fs y z) ≡ Some w → Implied (z ∷ y ∷ fs) w) (has_left y)
    (λ _ h. looped_implied fs y z w (looped_sound fs y z None w h)) (λ _ h. with_step_sound fs y z w h) h

-- ---- items

pub well_item_field : (x : Item) → well_field (item_field x) ≡ well_item x
well_item_field = item_cases (λ x. well_field (item_field x) ≡ well_item x)
    (λ x. ap well_field (item-Plain_field x) ∙ well_value-One x ∙ sym (well_item-Plain x))
    (λ n x. ap well_field (item-Keyword_field n x)
    ∙ ap (λ b. b && well_value (v.One x)) (ap (λ (g : Grade). g.1) (grade-Reference (r.Whole n)) ∙ well_reference-Whole n)
    ∙ well_value-One x ∙ sym (well_item-Keyword n x))
    (λ a b c. ap well_field (item-Triplet_field a b c) ∙ sym (well_item-Triplet a b c))

nothing_text : (left : Option Expression) (sp : Spread) → is_nothing_from left sp ≡ true → left_text left ++ spread_text sp ≡ []
nothing_text None spread.Empty h = refl
nothing_text None (spread.One w) h = absurd (cc)
nothing_text None (spread.Triplet a b c) h = absurd (cc)
nothing_text (Some x) sp h = absurd (cc)

pub within_text : (fs : List Field) → fields_text (within fs) ≡ fields_text fs
within_text [] = refl
within_text (f ∷ []) = by_test (λ b. fields_text (if b then [] else f ∷ []) ≡ field_text f) (is_nothing f)
    (λ h. sym (nothing_text f.left f.spread h)) (λ h. refl)
within_text (f ∷ g ∷ fs) = refl

pub within_well : (fs : List Field) → well_fields fs ≡ true → well_fields (within fs) ≡ true
within_well [] h = h
within_well (f ∷ []) h = by_test (λ b. well_fields (if b then [] else f ∷ []) ≡ true) (is_nothing f) (λ _. refl) (λ _. h)
within_well (f ∷ g ∷ fs) h = h

pub record Listed (fs : List Field) (xs : List Item) : Type 0 where
  pub spelled : fields_text fs ≡ commas (map item xs)
  pub kept : well_fields fs ≡ true → all (map well_item xs) ≡ true

items_sound : (fs : List Field) (xs : List Item) → items_of fs ≡ Some xs → Listed fs xs
items_sound fs xs h =
    let is = all_collected item_of item_field (λ f x is. item_sound f.left f.spread x is) xs (within fs) h in record {
      spelled = sym (within_text fs) ∙ ap fields_text is ∙ list_text item_field item item_text xs;
      kept = λ w. (onto_well item_field well_item well_item_field xs [] (sym (ap well_fields is) ∙ within_well fs w)).0;
    }

-- ---- brackets

holds_good : (s : Stack) (o : Option Expression) (t : Text) → ((x : Expression) → o ≡ Some x → Holding s x t) → Good (holds s o) t
holds_good s None t h = tt
holds_good s (Some x) t h = h x refl

did_good : (s : Stack) (o : Option Value) (t : Text) → ((w : Value) → o ≡ Some w → Doing s w t) → Good (did s o) t
did_good s None t h = tt
did_good s (Some w) t h = h w refl

-- fields and a closer
abbrev pub between : Bracket → List Field → Punctuation → Text
between k fs p = opening k ++ (fields_text fs ++ punctuated p [])

bracketed_good : (f : Field) (s : Stack) → well_fields (f ∷ []) ≡ true → Sits s →
    Good (holds s (option_map e.Bracketed (expression_of f))) (stack_text s ++ between kind.Plain (f ∷ []) mark.Close)
bracketed_good f s w sits = holds_good s (option_map e.Bracketed (expression_of f)) _
    (λ y h. mapped e.Bracketed (expression_of f) y h (λ x hx is.
    let same = expression_sound f x hx in
    subst (λ y. Holding s y (stack_text s ++ between kind.Plain (f ∷ []) mark.Close)) is record {
      spelled = ap (λ t. stack_text s ++ t) (expression-Bracketed x)
          ∙ ap (λ t. stack_text s ++ in_brackets t) (sym (ap field_text same ∙ value-One x));
      sits = sits;
      operand = grade-Bracketed x ∙ ap (λ b. (10, b)) (sym (ap well_field same ∙ well_value-One x) ∙ w);
    }))

did_implied : (fs : List Field) (s : Stack) → well_fields fs ≡ true → Sits s →
    Good (did s (implied fs)) (stack_text s ++ between kind.Plain fs mark.Close)
did_implied fs s w sits = did_good s (implied fs) _ (λ v h. let i = implied_sound fs v h in record {
  spelled = ap (λ t. stack_text s ++ t) (sym i.spelled);
  sits = sits;
  kept = i.kept w;
})

plain_good : (fs : List Field) (s : Stack) → well_fields fs ≡ true → Sits s →
    Good (made_plain fs s) (stack_text s ++ between kind.Plain fs mark.Close)
plain_good [] s w sits = tt
plain_good (f ∷ []) s w sits = bracketed_good f s w sits
plain_good (f ∷ g ∷ fs) s w sits = did_implied (f ∷ g ∷ fs) s w sits

behind_good : (n : Word) (fs : List Field) (s : Stack) → well_fields fs ≡ true → Sits s →
    Good (holds s (option_map (λ items. e.Reference (r.Items n items)) (items_of fs)))
    (stack_text s ++ between (kind.Behind n) fs mark.Close)
behind_good n fs s w sits = holds_good s _ _ (λ y h. mapped (λ items. e.Reference (r.Items n items)) (items_of fs) y h (λ xs hx is.
    let l = items_sound fs xs hx in
    subst (λ y. Holding s y (stack_text s ++ between (kind.Behind n) fs mark.Close)) is record {
      spelled =
          ap (λ t. stack_text s ++ t)
          (expression-Reference (r.Items n xs) ∙ reference-Items n xs ∙ ap (λ t. terminal.Name n ∷ in_brackets t) (sym l.spelled));
      sits = sits;
      operand = grade-Reference (r.Items n xs) ∙ ap (λ b. (10, b)) (well_reference-Items n xs ∙ l.kept w);
    }))

array_good : (fs : List Field) (s : Stack) → well_fields fs ≡ true → Sits s →
    Good (holds s (option_map e.Constructor (values_of fs))) (stack_text s ++ between kind.Array fs mark.CloseArray)
array_good fs s w sits = holds_good s _ _ (λ y h. mapped e.Constructor (values_of fs) y h (λ vs hv is.
    let v = values_sound fs vs hv in
    subst (λ y. Holding s y (stack_text s ++ between kind.Array fs mark.CloseArray)) is record {
      spelled = ap (λ t. stack_text s ++ t) (expression-Constructor vs)
          ∙ ap (λ t. stack_text s ++ punctuated mark.OpenArray (t ++ punctuated mark.CloseArray [])) (sym (values_text fs vs v));
      sits = sits;
      operand = grade-Constructor vs ∙ ap (λ b. (10, b)) (and_from _ _ v.filled (values_well fs vs v w));
    }))

part_text : (n : Word) (xs : List Item) (a b : Option Expression) →
    opening (kind.Part n xs) ++ (spread_text (spread.Triplet a b None) ++ punctuated mark.Close [])
    ≡ expression (e.Reference (r.Substring n xs (a, b)))
part_text n xs a b =
    ap (λ t. terminal.Name n ∷ t)
    (append_assoc (in_brackets (commas (map item xs))) (punctuated mark.Open [])
    (spread_text (spread.Triplet a b None) ++ punctuated mark.Close [])
    ∙ ap (λ t. in_brackets (commas (map item xs)) ++ in_brackets (maybe (option_map expression a) ++ punctuated mark.Colon t))
    (append-nil (maybe (option_map expression b))))
    ∙ sym (expression-Reference (r.Substring n xs (a, b)) ∙ reference-Substring n xs a b)

range_well : (a b : Option Expression) → well_field (field None (spread.Triplet a b None)) ≡ true →
    (maybe_well (option_map grade a) && maybe_well (option_map grade b)) ≡ true
range_well a b h =
    let ws = and_parts (maybe_well (option_map grade a)) (maybe_well (option_map grade b) && true) h in
    and_from _ _ ws.0 (and_parts (maybe_well (option_map grade b)) true ws.1).0

part_good : (n : Word) (xs : List Item) (left : Option Expression) (sp : Spread) (s : Stack) → all (map well_item xs) ≡ true →
    well_field (field left sp) ≡ true → Sits s →
    Good (holds s (part_of n xs left sp)) (stack_text s ++ between (kind.Part n xs) (field left sp ∷ []) mark.Close)
part_good n xs None (spread.Triplet a b None) s wx w sits = record {
  spelled = ap (λ t. stack_text s ++ t) (sym (part_text n xs a b));
  sits = sits;
  operand = grade-Reference (r.Substring n xs (a, b)) ∙ ap (λ c. (10, c))
      (well_reference-Substring n xs a b ∙ and_from _ _ wx (range_well a b w));
}
part_good n xs None (spread.Triplet a b (Some c)) s wx w sits = tt
part_good n xs None (spread.One v) s wx w sits = tt
part_good n xs None spread.Empty s wx w sits = tt
part_good n xs (Some l) sp s wx w sits = tt

made_part_good : (n : Word) (xs : List Item) (fs : List Field) (s : Stack) → all (map well_item xs) ≡ true → well_fields fs ≡ true →
    Sits s →
    Good (holds s (made_part n xs fs)) (stack_text s ++ between (kind.Part n xs) fs mark.Close)
made_part_good n xs [] s wx w sits = tt
made_part_good n xs (f ∷ []) s wx w sits = part_good n xs f.left f.spread s wx w sits
made_part_good n xs (f ∷ g ∷ fs) s wx w sits = tt

alone_good : (fs : List Field) (s : Stack) → well_fields fs ≡ true →
    Good (alone fs s) (stack_text s ++ between kind.Alone fs mark.Close)
alone_good fs [] w = (refl, w)
alone_good fs (p ∷ s) w = tt

-- what closed brackets make has the text of their fields
pub made_good : (k : Bracket) (fs : List Field) (s : Stack) (p : Punctuation) → is_closed_by k p ≡ true → well_bracket k ≡ true →
    well_fields fs ≡ true → Sits s →
    Good (made k fs s) (stack_text s ++ between k fs p)
made_good kind.Plain fs s mark.Close c wk w sits = plain_good fs s w sits
made_good kind.Plain fs s p c wk w sits = absurd (cc)
made_good (kind.Behind n) fs s mark.Close c wk w sits = behind_good n fs s w sits
made_good (kind.Behind n) fs s p c wk w sits = absurd (cc)
made_good (kind.Part n xs) fs s mark.Close c wk w sits = made_part_good n xs fs s wk w sits
made_good (kind.Part n xs) fs s p c wk w sits = absurd (cc)
made_good kind.Array fs s mark.CloseArray c wk w sits = array_good fs s w sits
made_good kind.Array fs s p c wk w sits = absurd (cc)
made_good kind.Alone fs s mark.Close c wk w sits = alone_good fs s w
made_good kind.Alone fs s p c wk w sits = absurd (cc)
made_good kind.Row fs s p c wk w sits = absurd (cc)
