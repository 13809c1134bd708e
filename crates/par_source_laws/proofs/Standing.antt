-- Each builder keeps the order of the places of what it puts together.
use Rattle.std.proofs.Common.{ℕ, ◌≤◌, ◌<◌, ◌≡◌, Bool, true, false, List, [], ◌∷◌, ◌++◌, map, arith}
use Rattle.std.proofs.Common.{None, refl, sym, ap, subst, ◌∙◌, append_assoc, append-nil}
use Rattle.std.specs.Prelude.{nat_le, nat_eq}
use Rattle.std.specs.List.{IsDistinct}
use Rattle.std.proofs.lemmas.List.{map-append}
use Rattle.std.proofs.lemmas.Bool.Decides.{nat_tests}
use Rattle.par_lexer.specs.declared.operator.BinOp.{BinOp}
use Rattle.par_names.specs.par_tree.declared.decl.FieldDecl.{FieldDecl}
use Rattle.par_names.specs.par_tree.declared.decl.ChannelDecl.{ChannelDecl}
use Rattle.par_names.specs.par_tree.Plain as plain
use Rattle.par_names.specs.par_tree.Grammar.{Builders}
use Rattle.par_names.specs.par_tree.Grammar as g
use Rattle.par_names.specs.par_tree.Values.{Value, Values, Members, tok, exp, exps, may, braces}
use Rattle.par_names.specs.par_tree.Values.{may_braces}
use Rattle.par_names.specs.par_tree.Values.{sta, stas, other, handler, catches, term, whole}
use Rattle.par_names.specs.par_tree.Values.{may_whole}
use Rattle.par_names.specs.par_tree.Values.{clause, clauses, lock, needs, idents, typed, gives}
use Rattle.par_names.specs.par_tree.Values.{flag, many}
use Rattle.par_names.specs.par_tree.Values.{param, listed, says, members, decl, source}
use Rattle.par_names.specs.par_tree.Values.{no_members, with_field, with_channel, with_method}
use Rattle.par_names.specs.par_tree.Values.{built, ident, channel, binary, next_method}
use Rattle.par_names.specs.par_tree.Values.{next_decl, actors_decl, lock_decl, policy_decl}
use Rattle.par_names.specs.par_tree.Values.{exception_decl}
use Rattle.par_names.specs.par_tree.Values.{class_decl, next_ident, inferred_field, field}
use Rattle.par_names.specs.par_tree.Values.{some_result}
use Rattle.par_names.specs.par_tree.Values.{one_param, next_param, next_write, next_expect}
use Rattle.par_names.specs.par_tree.Values.{next_open}
use Rattle.par_names.specs.par_tree.Values.{next_close, next_throw, int_type, boolean_type}
use Rattle.par_names.specs.par_tree.Values.{class_type}
use Rattle.par_names.specs.par_tree.Values.{some_policy, first_term, next_term, clauses_term}
use Rattle.par_names.specs.par_tree.Values.{named_term}
use Rattle.par_names.specs.par_tree.Values.{bottom_term, top_term, one_clause, next_clause}
use Rattle.par_names.specs.par_tree.Values.{one_lock}
use Rattle.par_names.specs.par_tree.Values.{next_lock, next_stmt, whole_block, block_stmt, if_stmt}
use Rattle.par_names.specs.par_tree.Values.{some_else}
use Rattle.par_names.specs.par_tree.Values.{while_stmt, one_catch, next_catch, try_stmt, some_value}
use Rattle.par_names.specs.par_tree.Values.{return_stmt, break_stmt, continue_stmt, throw_stmt}
use Rattle.par_names.specs.par_tree.Values.{open_stmt}
use Rattle.par_names.specs.par_tree.Values.{close_stmt, when_stmt, some_block, local_stmt}
use Rattle.par_names.specs.par_tree.Values.{class_local}
use Rattle.par_names.specs.par_tree.Values.{assign_stmt, call_stmt, constant, true_expr, false_expr}
use Rattle.par_names.specs.par_tree.Values.{null_expr, this_expr, create, variable, select}
use Rattle.par_names.specs.par_tree.Values.{call_own, call_on}
use Rattle.par_names.specs.par_tree.Values.{negate, invert, next_arg}
use Rattle.par_names.proofs.Lookups.{map-map}
use Rattle.par_source_laws.proofs.Places.{Lies, wider, Climb, further, ascends_from, climbs_to}
use Rattle.par_source_laws.proofs.Places.{Apart, none_apart, apart_further, apart_with}
use Rattle.par_source_laws.proofs.Places.{method_place, DeclarationLies, declaration_further}
use Rattle.par_source_laws.proofs.Places.{SourceLies, source_further, source_to}

-- ---- values

abbrev places : Members → List ℕ
places ms = map method_place ms.methods

abbrev field_places : Members → List ℕ
field_places ms = map (λ f. f.id.at) ms.fields

abbrev channel_places : Members → List ℕ
channel_places ms = map (λ k. k.id.at) ms.channels

-- methods in order, and members apart
pub record MembersLie (lo hi : ℕ) (ms : Members) : Type 0 where
  pub methods : Climb lo hi (places ms)
  pub fields : Apart hi (field_places ms)
  pub callees : Apart hi (channel_places ms ++ places ms)

-- what a value says of the tokens between two places
abbrev pub ValueLies : ℕ → ℕ → Value → Type 0
ValueLies lo hi (tok x) = Lies lo hi x.from
ValueLies lo hi (many n) = n ≤ 2
ValueLies lo hi (members ms) = MembersLie lo hi ms
ValueLies lo hi (decl d) = DeclarationLies lo hi d
ValueLies lo hi (source ds) = SourceLies lo hi ds
ValueLies lo hi _ = Unit {0}

-- the last value, which is the first of the list, ends at this place, and each of the others where
-- the one behind it begins
abbrev pub Stack : ℕ → Values → Type 0
Stack hi [] = Unit {0}
Stack hi (v ∷ vs) = (lo : ℕ) × (lo ≤ hi) × ValueLies lo hi v × Stack lo vs

members_further : (lo mid hi : ℕ) (ms : Members) → mid ≤ hi → MembersLie lo mid ms
    → MembersLie lo hi ms
members_further lo mid hi ms le h = record {
  methods = further lo mid hi (places ms) le h.methods;
  fields = apart_further mid hi (field_places ms) le h.fields;
  callees = apart_further mid hi (channel_places ms ++ places ms) le h.callees;
}

value_further : (lo mid hi : ℕ) (v : Value) → mid ≤ hi → ValueLies lo mid v → ValueLies lo hi v
value_further lo mid hi (tok x) le h = wider lo mid hi x.from le h
value_further lo mid hi (members ms) le h = members_further lo mid hi ms le h
value_further lo mid hi (decl d) le h = declaration_further lo mid hi d le h
value_further lo mid hi (source ds) le h = source_further lo mid hi ds le h
value_further lo mid hi v le h = h

-- the last value ends at a later place
pub stack_further : (mid hi : ℕ) (vs : Values) → mid ≤ hi → Stack mid vs → Stack hi vs
stack_further mid hi [] le h = tt
stack_further mid hi (v ∷ vs) le h =
    (h.0, omega (arith, le, h.1), value_further h.0 mid hi v le h.2, h.3)

-- ---- builders

next_decl_lies : (hi : ℕ) (vs : Values) → Stack hi vs → Stack hi (next_decl vs)
next_decl_lies hi (decl d ∷ source ds ∷ vs) h =
    let all = source_to h.3.0 h.0 h.0 hi ds d h.3.2 (omega arith) h.1 h.2 in
    (h.3.0, omega (arith, h.1, h.3.1), all, h.3.3)
next_decl_lies hi vs h = h

actors_decl_lies : (hi : ℕ) (vs : Values) → Stack hi vs → Stack hi (actors_decl vs)
actors_decl_lies hi (idents ids ∷ vs) h = (h.0, h.1, tt, h.3)
actors_decl_lies hi vs h = h

lock_decl_lies : (hi : ℕ) (vs : Values) → Stack hi vs → Stack hi (lock_decl vs)
lock_decl_lies hi (may_whole p ∷ many n ∷ tok x ∷ vs) h =
    (h.3.3.0, omega (arith, h.1, h.3.1, h.3.3.1), h.3.2, h.3.3.3)
lock_decl_lies hi vs h = h

policy_decl_lies : (hi : ℕ) (vs : Values) → Stack hi vs → Stack hi (policy_decl vs)
policy_decl_lies hi (whole p ∷ tok x ∷ vs) h = (h.3.0, omega (arith, h.1, h.3.1), tt, h.3.3)
policy_decl_lies hi vs h = h

-- ---- one more member

field_joins : (lo mid hi : ℕ) (ms : Members) (f : FieldDecl) → MembersLie lo mid ms
    → mid ≤ f.id.at → f.id.at < hi → MembersLie lo hi (with_field ms f)
field_joins lo mid hi ms f h le lt = record {
  methods = further lo mid hi (places ms) (omega (arith, le, lt)) h.methods;
  fields =
      subst (Apart hi) (sym (map-append (λ f. f.id.at) ms.fields (f ∷ [])))
      (apart_with mid hi f.id.at (field_places ms) [] le lt
      (subst (Apart mid) (sym (append-nil (field_places ms))) h.fields));
  callees = apart_further mid hi (channel_places ms ++ places ms) (omega (arith, le, lt)) h.callees;
}

channel_joins : (lo mid hi : ℕ) (ms : Members) (k : ChannelDecl) → MembersLie lo mid ms
    → mid ≤ k.id.at → k.id.at < hi → MembersLie lo hi (with_channel ms k)
channel_joins lo mid hi ms k h le lt = record {
  methods = further lo mid hi (places ms) (omega (arith, le, lt)) h.methods;
  fields = apart_further mid hi (field_places ms) (omega (arith, le, lt)) h.fields;
  callees =
      subst (Apart hi) (sym (ap (λ xs. xs ++ places ms)
      (map-append (λ k. k.id.at) ms.channels (k ∷ []))
      ∙ append_assoc (channel_places ms) (k.id.at ∷ []) (places ms)))
      (apart_with mid hi k.id.at (channel_places ms) (places ms) le lt h.callees);
}

method_joins : (lo mid low hi : ℕ) (ms : Members) (m : plain.Method) → MembersLie lo mid ms
    → mid ≤ low → Lies low hi (method_place m) → MembersLie lo hi (with_method ms m)
method_joins lo mid low hi ms m h le own =
    let le_own : mid ≤ m.id.at = omega (arith, le, own.above) in
    let lt : m.id.at < hi = own.below in
    let whole : Apart mid ((channel_places ms ++ places ms) ++ []) =
    subst (Apart mid) (sym (append-nil (channel_places ms ++ places ms))) h.callees in
    record {
      methods = climbs_to method_place lo mid low hi ms.methods m h.methods le own;
      fields = apart_further mid hi (field_places ms) (omega (arith, le_own, lt)) h.fields;
      callees =
          subst (Apart hi) (append_assoc (channel_places ms) (places ms) (m.id.at ∷ [])
          ∙ ap (λ ys. channel_places ms ++ ys)
          (sym (map-append method_place ms.methods (m ∷ []))))
          (apart_with mid hi m.id.at (channel_places ms ++ places ms) [] le_own lt whole);
    }

-- ---- builders of declarations

no_places : IsDistinct nat_eq []
unfolding IsDistinct
no_places = tt

callees_differ : (hi : ℕ) (ms : Members) → Apart hi (channel_places ms ++ places ms)
    → IsDistinct nat_eq
    (map (λ id. id.at) (map (λ k. k.id) ms.channels ++ map (λ m. m.id) ms.methods))
callees_differ hi ms h =
    subst (IsDistinct nat_eq)
    (sym (map-append (λ id. id.at) (map (λ k. k.id) ms.channels) (map (λ m. m.id) ms.methods)
    ∙ ap (λ xs. xs ++ map (λ id. id.at) (map (λ m. m.id) ms.methods))
    (map-map (λ id. id.at) (λ k. k.id) ms.channels)
    ∙ ap (λ ys. channel_places ms ++ ys) (map-map (λ id. id.at) (λ m. m.id) ms.methods)))
    h.differ

exception_decl_lies : (hi : ℕ) (vs : Values) → Stack hi vs → Stack hi (exception_decl vs)
exception_decl_lies hi (tok x ∷ vs) h = (
  h.0,
  h.1,
  (
    h.2,
    tt,
    record { fields = no_places; callees = no_places },
    λ is. record { fields = refl; channels = refl; methods = refl },
  ),
  h.3,
)
exception_decl_lies hi vs h = h

class_decl_lies : (hi : ℕ) (vs : Values) → Stack hi vs → Stack hi (class_decl vs)
class_decl_lies hi (members ms ∷ may_whole p ∷ tok x ∷ vs) h =
    let name = wider h.3.3.0 h.3.0 hi x.from (omega (arith, h.1, h.3.1)) h.3.3.2 in
    let methods = ascends_from h.0 hi (places ms) h.2.methods in (
      h.3.3.0,
      omega (arith, h.1, h.3.1, h.3.3.1),
      (
        name,
        methods,
        record { fields = h.2.fields.differ; callees = callees_differ hi ms h.2.callees },
        λ is. absurd (cc is),
      ),
      h.3.3.3,
    )
class_decl_lies hi vs h = h

next_ident_lies : (hi : ℕ) (vs : Values) → Stack hi vs → Stack hi (next_ident vs)
next_ident_lies hi (tok x ∷ idents ids ∷ vs) h = (h.3.0, omega (arith, h.1, h.3.1), tt, h.3.3)
next_ident_lies hi vs h = h

inferred_field_lies : (hi : ℕ) (vs : Values) → Stack hi vs → Stack hi (inferred_field vs)
inferred_field_lies hi (tok x ∷ typed t ∷ flag s ∷ members ms ∷ vs) h =
    let le : h.3.3.0 ≤ hi = omega (arith, h.1, h.3.1, h.3.3.1) in
    let own = h.3.3.3 in
    let behind : h.3.3.0 ≤ x.from = omega (arith, h.2.above, h.3.1, h.3.3.1) in
    let inferred : FieldDecl =
    record { id = ident x; is_static = s; ty = t; policy = None; inferred = true } in
    let all = field_joins own.0 h.3.3.0 hi ms inferred own.2 behind h.2.below in
    (own.0, omega (arith, le, own.1), all, own.3)
inferred_field_lies hi vs h = h

field_lies : (hi : ℕ) (vs : Values) → Stack hi vs → Stack hi (field vs)
field_lies hi (tok x ∷ typed t ∷ flag s ∷ may_whole p ∷ members ms ∷ vs) h =
    let le : h.3.3.3.0 ≤ hi = omega (arith, h.1, h.3.1, h.3.3.1, h.3.3.3.1) in
    let own = h.3.3.3.3 in
    let behind : h.3.3.3.0 ≤ x.from = omega (arith, h.2.above, h.3.1, h.3.3.1, h.3.3.3.1) in
    let written : FieldDecl =
    record { id = ident x; is_static = s; ty = t; policy = p; inferred = false } in
    let all = field_joins own.0 h.3.3.3.0 hi ms written own.2 behind h.2.below in
    (own.0, omega (arith, le, own.1), all, own.3)
field_lies hi vs h = h

some_result_lies : (hi : ℕ) (vs : Values) → Stack hi vs → Stack hi (some_result vs)
some_result_lies hi (tok x ∷ typed t ∷ vs) h = (h.0, h.1, h.2, (h.3.0, h.3.1, tt, h.3.3))
some_result_lies hi vs h = h

one_param_lies : (hi : ℕ) (vs : Values) → Stack hi vs → Stack hi (one_param vs)
one_param_lies hi (tok x ∷ typed t ∷ flag n ∷ may_whole p ∷ vs) h =
    (h.3.3.3.0, omega (arith, h.1, h.3.1, h.3.3.1, h.3.3.3.1), tt, h.3.3.3.3)
one_param_lies hi vs h = h

next_param_lies : (hi : ℕ) (vs : Values) → Stack hi vs → Stack hi (next_param vs)
next_param_lies hi (param p ∷ listed ps ∷ vs) h = (h.3.0, omega (arith, h.1, h.3.1), tt, h.3.3)
next_param_lies hi vs h = h

next_write_lies : (hi : ℕ) (vs : Values) → Stack hi vs → Stack hi (next_write vs)
next_write_lies hi (whole p ∷ says e ∷ vs) h = (h.3.0, omega (arith, h.1, h.3.1), tt, h.3.3)
next_write_lies hi vs h = h

next_expect_lies : (hi : ℕ) (vs : Values) → Stack hi vs → Stack hi (next_expect vs)
next_expect_lies hi (lock l ∷ says e ∷ vs) h = (h.3.0, omega (arith, h.1, h.3.1), tt, h.3.3)
next_expect_lies hi vs h = h

next_open_lies : (hi : ℕ) (vs : Values) → Stack hi vs → Stack hi (next_open vs)
next_open_lies hi (lock l ∷ says e ∷ vs) h = (h.3.0, omega (arith, h.1, h.3.1), tt, h.3.3)
next_open_lies hi vs h = h

next_close_lies : (hi : ℕ) (vs : Values) → Stack hi vs → Stack hi (next_close vs)
next_close_lies hi (lock l ∷ says e ∷ vs) h = (h.3.0, omega (arith, h.1, h.3.1), tt, h.3.3)
next_close_lies hi vs h = h

next_throw_lies : (hi : ℕ) (vs : Values) → Stack hi vs → Stack hi (next_throw vs)
next_throw_lies hi (whole p ∷ tok x ∷ says e ∷ vs) h =
    (h.3.3.0, omega (arith, h.1, h.3.1, h.3.3.1), tt, h.3.3.3)
next_throw_lies hi vs h = h

int_type_lies : (hi : ℕ) (vs : Values) → Stack hi vs → Stack hi (int_type vs)
int_type_lies hi (tok x ∷ vs) h = (h.0, h.1, tt, h.3)
int_type_lies hi vs h = h

boolean_type_lies : (hi : ℕ) (vs : Values) → Stack hi vs → Stack hi (boolean_type vs)
boolean_type_lies hi (tok x ∷ vs) h = (h.0, h.1, tt, h.3)
boolean_type_lies hi vs h = h

class_type_lies : (hi : ℕ) (vs : Values) → Stack hi vs → Stack hi (class_type vs)
class_type_lies hi (tok x ∷ vs) h = (h.0, h.1, tt, h.3)
class_type_lies hi vs h = h

some_policy_lies : (hi : ℕ) (vs : Values) → Stack hi vs → Stack hi (some_policy vs)
some_policy_lies hi (whole p ∷ vs) h = (h.0, h.1, tt, h.3)
some_policy_lies hi vs h = h

first_term_lies : (hi : ℕ) (vs : Values) → Stack hi vs → Stack hi (first_term vs)
first_term_lies hi (term t at ∷ vs) h = (h.0, h.1, tt, h.3)
first_term_lies hi vs h = h

next_term_lies : (hi : ℕ) (vs : Values) → Stack hi vs → Stack hi (next_term vs)
next_term_lies hi (term t at ∷ whole p ∷ vs) h = (h.3.0, omega (arith, h.1, h.3.1), tt, h.3.3)
next_term_lies hi vs h = h

clauses_term_lies : (hi : ℕ) (vs : Values) → Stack hi vs → Stack hi (clauses_term vs)
clauses_term_lies hi (clauses cs ∷ tok x ∷ vs) h = (h.3.0, omega (arith, h.1, h.3.1), tt, h.3.3)
clauses_term_lies hi vs h = h

named_term_lies : (hi : ℕ) (vs : Values) → Stack hi vs → Stack hi (named_term vs)
named_term_lies hi (tok x ∷ vs) h = (h.0, h.1, tt, h.3)
named_term_lies hi vs h = h

bottom_term_lies : (hi : ℕ) (vs : Values) → Stack hi vs → Stack hi (bottom_term vs)
bottom_term_lies hi (tok x ∷ vs) h = (h.0, h.1, tt, h.3)
bottom_term_lies hi vs h = h

top_term_lies : (hi : ℕ) (vs : Values) → Stack hi vs → Stack hi (top_term vs)
top_term_lies hi (tok x ∷ vs) h = (h.0, h.1, tt, h.3)
top_term_lies hi vs h = h

one_clause_lies : (hi : ℕ) (vs : Values) → Stack hi vs → Stack hi (one_clause vs)
one_clause_lies hi (needs ls ∷ tok x ∷ vs) h = (h.3.0, omega (arith, h.1, h.3.1), tt, h.3.3)
one_clause_lies hi vs h = h

next_clause_lies : (hi : ℕ) (vs : Values) → Stack hi vs → Stack hi (next_clause vs)
next_clause_lies hi (clause c ∷ clauses cs ∷ vs) h = (h.3.0, omega (arith, h.1, h.3.1), tt, h.3.3)
next_clause_lies hi vs h = h

one_lock_lies : (hi : ℕ) (vs : Values) → Stack hi vs → Stack hi (one_lock vs)
one_lock_lies hi (idents ids ∷ tok x ∷ vs) h = (h.3.0, omega (arith, h.1, h.3.1), tt, h.3.3)
one_lock_lies hi vs h = h

next_lock_lies : (hi : ℕ) (vs : Values) → Stack hi vs → Stack hi (next_lock vs)
next_lock_lies hi (lock l ∷ needs ls ∷ vs) h = (h.3.0, omega (arith, h.1, h.3.1), tt, h.3.3)
next_lock_lies hi vs h = h

next_stmt_lies : (hi : ℕ) (vs : Values) → Stack hi vs → Stack hi (next_stmt vs)
next_stmt_lies hi (sta s ∷ stas ss ∷ vs) h = (h.3.0, omega (arith, h.1, h.3.1), tt, h.3.3)
next_stmt_lies hi vs h = h

whole_block_lies : (hi : ℕ) (vs : Values) → Stack hi vs → Stack hi (whole_block vs)
whole_block_lies hi (stas ss ∷ tok x ∷ vs) h = (h.3.0, omega (arith, h.1, h.3.1), tt, h.3.3)
whole_block_lies hi vs h = h

block_stmt_lies : (hi : ℕ) (vs : Values) → Stack hi vs → Stack hi (block_stmt vs)
block_stmt_lies hi (braces b ∷ vs) h = (h.0, h.1, tt, h.3)
block_stmt_lies hi vs h = h

if_stmt_lies : (hi : ℕ) (vs : Values) → Stack hi vs → Stack hi (if_stmt vs)
if_stmt_lies hi (other o ∷ braces b ∷ exp e ∷ tok x ∷ vs) h =
    (h.3.3.3.0, omega (arith, h.1, h.3.1, h.3.3.1, h.3.3.3.1), tt, h.3.3.3.3)
if_stmt_lies hi vs h = h

some_else_lies : (hi : ℕ) (vs : Values) → Stack hi vs → Stack hi (some_else vs)
some_else_lies hi (sta s ∷ vs) h = (h.0, h.1, tt, h.3)
some_else_lies hi vs h = h

while_stmt_lies : (hi : ℕ) (vs : Values) → Stack hi vs → Stack hi (while_stmt vs)
while_stmt_lies hi (braces b ∷ exp e ∷ tok x ∷ vs) h =
    (h.3.3.0, omega (arith, h.1, h.3.1, h.3.3.1), tt, h.3.3.3)
while_stmt_lies hi vs h = h

one_catch_lies : (hi : ℕ) (vs : Values) → Stack hi vs → Stack hi (one_catch vs)
one_catch_lies hi (braces b ∷ tok y ∷ tok x ∷ vs) h =
    (h.3.3.0, omega (arith, h.1, h.3.1, h.3.3.1), tt, h.3.3.3)
one_catch_lies hi vs h = h

next_catch_lies : (hi : ℕ) (vs : Values) → Stack hi vs → Stack hi (next_catch vs)
next_catch_lies hi (handler c ∷ catches cs ∷ vs) h = (h.3.0, omega (arith, h.1, h.3.1), tt, h.3.3)
next_catch_lies hi vs h = h

try_stmt_lies : (hi : ℕ) (vs : Values) → Stack hi vs → Stack hi (try_stmt vs)
try_stmt_lies hi (catches cs ∷ braces b ∷ tok x ∷ vs) h =
    (h.3.3.0, omega (arith, h.1, h.3.1, h.3.3.1), tt, h.3.3.3)
try_stmt_lies hi vs h = h

some_value_lies : (hi : ℕ) (vs : Values) → Stack hi vs → Stack hi (some_value vs)
some_value_lies hi (exp e ∷ vs) h = (h.0, h.1, tt, h.3)
some_value_lies hi vs h = h

return_stmt_lies : (hi : ℕ) (vs : Values) → Stack hi vs → Stack hi (return_stmt vs)
return_stmt_lies hi (may e ∷ tok x ∷ vs) h = (h.3.0, omega (arith, h.1, h.3.1), tt, h.3.3)
return_stmt_lies hi vs h = h

break_stmt_lies : (hi : ℕ) (vs : Values) → Stack hi vs → Stack hi (break_stmt vs)
break_stmt_lies hi (tok x ∷ vs) h = (h.0, h.1, tt, h.3)
break_stmt_lies hi vs h = h

continue_stmt_lies : (hi : ℕ) (vs : Values) → Stack hi vs → Stack hi (continue_stmt vs)
continue_stmt_lies hi (tok x ∷ vs) h = (h.0, h.1, tt, h.3)
continue_stmt_lies hi vs h = h

throw_stmt_lies : (hi : ℕ) (vs : Values) → Stack hi vs → Stack hi (throw_stmt vs)
throw_stmt_lies hi (tok y ∷ tok x ∷ vs) h = (h.3.0, omega (arith, h.1, h.3.1), tt, h.3.3)
throw_stmt_lies hi vs h = h

open_stmt_lies : (hi : ℕ) (vs : Values) → Stack hi vs → Stack hi (open_stmt vs)
open_stmt_lies hi (lock l ∷ tok x ∷ vs) h = (h.3.0, omega (arith, h.1, h.3.1), tt, h.3.3)
open_stmt_lies hi vs h = h

close_stmt_lies : (hi : ℕ) (vs : Values) → Stack hi vs → Stack hi (close_stmt vs)
close_stmt_lies hi (lock l ∷ tok x ∷ vs) h = (h.3.0, omega (arith, h.1, h.3.1), tt, h.3.3)
close_stmt_lies hi vs h = h

when_stmt_lies : (hi : ℕ) (vs : Values) → Stack hi vs → Stack hi (when_stmt vs)
when_stmt_lies hi (may_braces o ∷ braces b ∷ lock l ∷ tok x ∷ vs) h =
    (h.3.3.3.0, omega (arith, h.1, h.3.1, h.3.3.1, h.3.3.3.1), tt, h.3.3.3.3)
when_stmt_lies hi vs h = h

some_block_lies : (hi : ℕ) (vs : Values) → Stack hi vs → Stack hi (some_block vs)
some_block_lies hi (braces b ∷ vs) h = (h.0, h.1, tt, h.3)
some_block_lies hi vs h = h

local_stmt_lies : (hi : ℕ) (vs : Values) → Stack hi vs → Stack hi (local_stmt vs)
local_stmt_lies hi (exp e ∷ tok x ∷ typed t ∷ flag n ∷ may_whole p ∷ vs) h =
    (h.3.3.3.3.0, omega (arith, h.1, h.3.1, h.3.3.1, h.3.3.3.1, h.3.3.3.3.1), tt, h.3.3.3.3.3)
local_stmt_lies hi vs h = h

class_local_lies : (hi : ℕ) (vs : Values) → Stack hi vs → Stack hi (class_local vs)
class_local_lies hi (exp e ∷ tok y ∷ tok x ∷ vs) h =
    (h.3.3.0, omega (arith, h.1, h.3.1, h.3.3.1), tt, h.3.3.3)
class_local_lies hi vs h = h

assign_stmt_lies : (hi : ℕ) (vs : Values) → Stack hi vs → Stack hi (assign_stmt vs)
assign_stmt_lies hi (exp e ∷ tok x ∷ exp target ∷ vs) h =
    (h.3.3.0, omega (arith, h.1, h.3.1, h.3.3.1), tt, h.3.3.3)
assign_stmt_lies hi vs h = h

call_stmt_lies : (hi : ℕ) (vs : Values) → Stack hi vs → Stack hi (call_stmt vs)
call_stmt_lies hi (tok x ∷ exp e ∷ vs) h = (h.3.0, omega (arith, h.1, h.3.1), tt, h.3.3)
call_stmt_lies hi vs h = h

constant_lies : (hi : ℕ) (vs : Values) → Stack hi vs → Stack hi (constant vs)
constant_lies hi (tok x ∷ vs) h = (h.0, h.1, tt, h.3)
constant_lies hi vs h = h

true_expr_lies : (hi : ℕ) (vs : Values) → Stack hi vs → Stack hi (true_expr vs)
true_expr_lies hi (tok x ∷ vs) h = (h.0, h.1, tt, h.3)
true_expr_lies hi vs h = h

false_expr_lies : (hi : ℕ) (vs : Values) → Stack hi vs → Stack hi (false_expr vs)
false_expr_lies hi (tok x ∷ vs) h = (h.0, h.1, tt, h.3)
false_expr_lies hi vs h = h

null_expr_lies : (hi : ℕ) (vs : Values) → Stack hi vs → Stack hi (null_expr vs)
null_expr_lies hi (tok x ∷ vs) h = (h.0, h.1, tt, h.3)
null_expr_lies hi vs h = h

this_expr_lies : (hi : ℕ) (vs : Values) → Stack hi vs → Stack hi (this_expr vs)
this_expr_lies hi (tok x ∷ vs) h = (h.0, h.1, tt, h.3)
this_expr_lies hi vs h = h

create_lies : (hi : ℕ) (vs : Values) → Stack hi vs → Stack hi (create vs)
create_lies hi (tok y ∷ tok x ∷ vs) h = (h.3.0, omega (arith, h.1, h.3.1), tt, h.3.3)
create_lies hi vs h = h

variable_lies : (hi : ℕ) (vs : Values) → Stack hi vs → Stack hi (variable vs)
variable_lies hi (tok x ∷ vs) h = (h.0, h.1, tt, h.3)
variable_lies hi vs h = h

select_lies : (hi : ℕ) (vs : Values) → Stack hi vs → Stack hi (select vs)
select_lies hi (tok x ∷ exp e ∷ vs) h = (h.3.0, omega (arith, h.1, h.3.1), tt, h.3.3)
select_lies hi vs h = h

call_own_lies : (hi : ℕ) (vs : Values) → Stack hi vs → Stack hi (call_own vs)
call_own_lies hi (exps es ∷ tok x ∷ vs) h = (h.3.0, omega (arith, h.1, h.3.1), tt, h.3.3)
call_own_lies hi vs h = h

call_on_lies : (hi : ℕ) (vs : Values) → Stack hi vs → Stack hi (call_on vs)
call_on_lies hi (exps es ∷ tok x ∷ exp e ∷ vs) h =
    (h.3.3.0, omega (arith, h.1, h.3.1, h.3.3.1), tt, h.3.3.3)
call_on_lies hi vs h = h

negate_lies : (hi : ℕ) (vs : Values) → Stack hi vs → Stack hi (negate vs)
negate_lies hi (exp e ∷ tok x ∷ vs) h = (h.3.0, omega (arith, h.1, h.3.1), tt, h.3.3)
negate_lies hi vs h = h

invert_lies : (hi : ℕ) (vs : Values) → Stack hi vs → Stack hi (invert vs)
invert_lies hi (exp e ∷ tok x ∷ vs) h = (h.3.0, omega (arith, h.1, h.3.1), tt, h.3.3)
invert_lies hi vs h = h

next_arg_lies : (hi : ℕ) (vs : Values) → Stack hi vs → Stack hi (next_arg vs)
next_arg_lies hi (exp e ∷ exps es ∷ vs) h = (h.3.0, omega (arith, h.1, h.3.1), tt, h.3.3)
next_arg_lies hi vs h = h

channel_lies : (i : Bool) (hi : ℕ) (vs : Values) → Stack hi vs → Stack hi (channel i vs)
channel_lies i hi (tok x ∷ may_whole p ∷ members ms ∷ vs) h =
    let le : h.3.0 ≤ hi = omega (arith, h.1, h.3.1) in
    let own = h.3.3 in
    let behind : h.3.0 ≤ x.from = omega (arith, h.2.above, h.3.1) in
    let channel : ChannelDecl = record { id = ident x; is_input = i; policy = p } in
    let all = channel_joins own.0 h.3.0 hi ms channel own.2 behind h.2.below in
    (own.0, omega (arith, le, own.1), all, own.3)
channel_lies i hi vs h = h

binary_lies : (op : BinOp) (hi : ℕ) (vs : Values) → Stack hi vs → Stack hi (binary op vs)
binary_lies op hi (exp b ∷ tok x ∷ exp a ∷ vs) h =
    (h.3.3.0, omega (arith, h.1, h.3.1, h.3.3.1), tt, h.3.3.3)
binary_lies op hi vs h = h

next_method_lies : (hi : ℕ) (vs : Values) → Stack hi vs → Stack hi (next_method vs)
next_method_lies hi
    (braces b ∷ says e ∷ listed ps ∷ tok x ∷ gives r ∷ flag s ∷ may_whole p ∷ members ms ∷ vs) h =
    let method : plain.Method = record {
      id = ident x;
      is_static = s;
      result = r;
      policy = p;
      params = ps;
      effects = e.writes;
      expects = e.expects;
      opens = e.opens;
      closes = e.closes;
      throws = e.throws;
      body = b;
    } in
    let name = h.3.3.3 in
    let policy = h.3.3.3.3.3.3 in
    let others = policy.3 in
    let before : policy.0 ≤ name.0 = omega (arith, name.3.1, name.3.3.1, policy.1) in
    let with_it = method_joins others.0 policy.0 name.0 h.3.3.0 ms method others.2 before name.2 in
    let behind : h.3.3.0 ≤ hi = omega (arith, h.1, h.3.1) in
    let low : others.0 ≤ hi = omega (arith, behind, name.1, before, others.1) in
    let all = members_further others.0 h.3.3.0 hi (with_method ms method) behind with_it in
    (others.0, low, all, others.3)
next_method_lies hi vs h = h

-- a family of locks has at most two actors
abbrev pub small_builder : Builders → Bool
small_builder (g.OfArity n) = nat_le n 2
small_builder _ = true

pub built_lies : (hi : ℕ) (b : Builders) (vs : Values) → small_builder b ≡ true → Stack hi vs
    → Stack hi (built b vs)
built_lies hi g.NoDecls vs k h =
    let none : SourceLies hi hi [] =
    record { arities = tt; classes = omega arith; methods = tt; members = tt; exceptions = tt } in
    (hi, omega arith, none, h)
built_lies hi g.NextDecl vs k h = next_decl_lies hi vs h
built_lies hi g.ActorsDecl vs k h = actors_decl_lies hi vs h
built_lies hi g.LockDecl vs k h = lock_decl_lies hi vs h
built_lies hi g.PolicyDecl vs k h = policy_decl_lies hi vs h
built_lies hi g.ExceptionDecl vs k h = exception_decl_lies hi vs h
built_lies hi g.ClassDecl vs k h = class_decl_lies hi vs h
built_lies hi g.NoIdents vs k h = (hi, omega arith, tt, h)
built_lies hi g.NextIdent vs k h = next_ident_lies hi vs h
built_lies hi (g.OfArity n) vs k h = (hi, omega arith, grind (arith, nat_tests), h)
built_lies hi g.NoMembers vs k h =
    let none : MembersLie hi hi no_members =
    record { methods = omega arith; fields = none_apart hi; callees = none_apart hi } in
    (hi, omega arith, none, h)
built_lies hi g.InferredField vs k h = inferred_field_lies hi vs h
built_lies hi g.InputChannel vs k h = channel_lies true hi vs h
built_lies hi g.OutputChannel vs k h = channel_lies false hi vs h
built_lies hi g.Field vs k h = field_lies hi vs h
built_lies hi g.NextMethod vs k h = next_method_lies hi vs h
built_lies hi g.IsStatic vs k h = (hi, omega arith, tt, h)
built_lies hi g.IsInstance vs k h = (hi, omega arith, tt, h)
built_lies hi g.NoResult vs k h = (hi, omega arith, tt, h)
built_lies hi g.SomeResult vs k h = some_result_lies hi vs h
built_lies hi g.NoParams vs k h = (hi, omega arith, tt, h)
built_lies hi g.OneParam vs k h = one_param_lies hi vs h
built_lies hi g.NextParam vs k h = next_param_lies hi vs h
built_lies hi g.IsNotnull vs k h = (hi, omega arith, tt, h)
built_lies hi g.MayBeNull vs k h = (hi, omega arith, tt, h)
built_lies hi g.NoEffects vs k h = (hi, omega arith, tt, h)
built_lies hi g.NextWrite vs k h = next_write_lies hi vs h
built_lies hi g.NextExpect vs k h = next_expect_lies hi vs h
built_lies hi g.NextOpen vs k h = next_open_lies hi vs h
built_lies hi g.NextClose vs k h = next_close_lies hi vs h
built_lies hi g.NextThrow vs k h = next_throw_lies hi vs h
built_lies hi g.IntType vs k h = int_type_lies hi vs h
built_lies hi g.BooleanType vs k h = boolean_type_lies hi vs h
built_lies hi g.ClassType vs k h = class_type_lies hi vs h
built_lies hi g.NoPolicy vs k h = (hi, omega arith, tt, h)
built_lies hi g.SomePolicy vs k h = some_policy_lies hi vs h
built_lies hi g.FirstTerm vs k h = first_term_lies hi vs h
built_lies hi g.NextTerm vs k h = next_term_lies hi vs h
built_lies hi g.ClausesTerm vs k h = clauses_term_lies hi vs h
built_lies hi g.NamedTerm vs k h = named_term_lies hi vs h
built_lies hi g.BottomTerm vs k h = bottom_term_lies hi vs h
built_lies hi g.TopTerm vs k h = top_term_lies hi vs h
built_lies hi g.NoClauses vs k h = (hi, omega arith, tt, h)
built_lies hi g.OneClause vs k h = one_clause_lies hi vs h
built_lies hi g.NextClause vs k h = next_clause_lies hi vs h
built_lies hi g.NoLocks vs k h = (hi, omega arith, tt, h)
built_lies hi g.NextLock vs k h = next_lock_lies hi vs h
built_lies hi g.OneLock vs k h = one_lock_lies hi vs h
built_lies hi g.NoStmts vs k h = (hi, omega arith, tt, h)
built_lies hi g.NextStmt vs k h = next_stmt_lies hi vs h
built_lies hi g.WholeBlock vs k h = whole_block_lies hi vs h
built_lies hi g.BlockStmt vs k h = block_stmt_lies hi vs h
built_lies hi g.IfStmt vs k h = if_stmt_lies hi vs h
built_lies hi g.NoElse vs k h = (hi, omega arith, tt, h)
built_lies hi g.SomeElse vs k h = some_else_lies hi vs h
built_lies hi g.WhileStmt vs k h = while_stmt_lies hi vs h
built_lies hi g.NoCatches vs k h = (hi, omega arith, tt, h)
built_lies hi g.OneCatch vs k h = one_catch_lies hi vs h
built_lies hi g.NextCatch vs k h = next_catch_lies hi vs h
built_lies hi g.TryStmt vs k h = try_stmt_lies hi vs h
built_lies hi g.NoValue vs k h = (hi, omega arith, tt, h)
built_lies hi g.SomeValue vs k h = some_value_lies hi vs h
built_lies hi g.ReturnStmt vs k h = return_stmt_lies hi vs h
built_lies hi g.BreakStmt vs k h = break_stmt_lies hi vs h
built_lies hi g.ContinueStmt vs k h = continue_stmt_lies hi vs h
built_lies hi g.ThrowStmt vs k h = throw_stmt_lies hi vs h
built_lies hi g.OpenStmt vs k h = open_stmt_lies hi vs h
built_lies hi g.CloseStmt vs k h = close_stmt_lies hi vs h
built_lies hi g.WhenStmt vs k h = when_stmt_lies hi vs h
built_lies hi g.NoBlock vs k h = (hi, omega arith, tt, h)
built_lies hi g.SomeBlock vs k h = some_block_lies hi vs h
built_lies hi g.LocalStmt vs k h = local_stmt_lies hi vs h
built_lies hi g.ClassLocal vs k h = class_local_lies hi vs h
built_lies hi g.AssignStmt vs k h = assign_stmt_lies hi vs h
built_lies hi g.CallStmt vs k h = call_stmt_lies hi vs h
built_lies hi g.Constant vs k h = constant_lies hi vs h
built_lies hi g.TrueExpr vs k h = true_expr_lies hi vs h
built_lies hi g.FalseExpr vs k h = false_expr_lies hi vs h
built_lies hi g.NullExpr vs k h = null_expr_lies hi vs h
built_lies hi g.ThisExpr vs k h = this_expr_lies hi vs h
built_lies hi g.Create vs k h = create_lies hi vs h
built_lies hi g.Variable vs k h = variable_lies hi vs h
built_lies hi g.Select vs k h = select_lies hi vs h
built_lies hi g.CallOwn vs k h = call_own_lies hi vs h
built_lies hi g.CallOn vs k h = call_on_lies hi vs h
built_lies hi g.Negate vs k h = negate_lies hi vs h
built_lies hi g.Invert vs k h = invert_lies hi vs h
built_lies hi (g.Binary op) vs k h = binary_lies op hi vs h
built_lies hi g.NoArgs vs k h = (hi, omega arith, tt, h)
built_lies hi g.NextArg vs k h = next_arg_lies hi vs h
