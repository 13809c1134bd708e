-- Which values of a derivation stand for what is read of declarations.
use Rattle.std.specs.Prelude.{ℕ, List, [], ◌∷◌, Option, None}
use Rattle.std.specs.Borrow.{Bor}
use Rattle.par_lexer.specs.declared.token.Token.{Token}
use Rattle.par_tree.specs.declared.decl.Decl.{Decl}
use Rattle.par_tree.specs.declared.decl.ParamDecl.{ParamDecl}
use Rattle.par_tree.specs.declared.decl.Program.{Program}
use Rattle.par_tree.specs.declared.types.TypeTree.{TypeTree}
use Rattle.par_tree.specs.Shown as tree
use Rattle.par_tree.specs.Values as value
use Rattle.par_tree.specs.Values.{Values, tok, flag, may_whole, typed, gives, many, param, listed}
use Rattle.par_tree.specs.Values.{says, braces, members, decl, source}
use Rattle.par_parser.specs.declared.effect.Effects.{Effects}
use Rattle.par_parser.specs.declared.member.Front.{Front}
use Rattle.par_parser.specs.declared.member.Inferred.{Inferred}
use Rattle.par_parser.specs.declared.member.Members.{Members}
use Rattle.par_parser.specs.declared.method.Tail.{Tail}

-- effects, and the value that they are
abbrev pub effects_of : Effects → value.Effects
effects_of e = record {
  writes = e.writes;
  expects = e.expects;
  opens = e.opens;
  closes = e.closes;
  throws = e.throws;
}

abbrev pub the_effects : Effects → Values
the_effects e = says (effects_of e) ∷ []

-- members as plain data
abbrev pub members_of : Members → value.Members
members_of m = record {
  fields = m.fields;
  channels = m.channels;
  methods = tree.methods m.methods;
}

abbrev pub the_members : Members → Values
the_members m = members (members_of m) ∷ []

abbrev pub a_front : Front → Values
a_front f = flag f.is_static ∷ may_whole f.policy ∷ []

-- a type, and the name behind it
abbrev pub a_typed : Token → TypeTree → Front → Values
a_typed x t f = tok x ∷ typed t ∷ flag f.is_static ∷ may_whole f.policy ∷ []

-- what stands before the parameters of a method
abbrev pub a_head : Token → Option TypeTree → Front → Values
a_head x r f = tok x ∷ gives r ∷ flag f.is_static ∷ may_whole f.policy ∷ []

-- a name that is kept
abbrev pub a_name : Bor Token → Values
a_name x = tok x.now ∷ []

-- what stands before the name of a field whose policy is inferred
abbrev pub an_inferred : Inferred → Values
an_inferred f = typed f.ty ∷ flag f.is_static ∷ []

-- the name of a method without a result
abbrev pub a_void : Bor Token → Values
a_void x = tok x.now ∷ gives None ∷ []

abbrev pub a_param : ParamDecl → Values
a_param p = param p ∷ []

abbrev pub the_params : List ParamDecl → Values
the_params ps = listed ps ∷ []

-- what stands behind the name of a method
abbrev pub a_tail : Tail → Values
a_tail t = braces (tree.braces t.body) ∷ says (effects_of t.effects) ∷ listed t.params ∷ []

abbrev pub an_arity : ℕ → Values
an_arity n = many n ∷ []

abbrev pub a_decl : Decl → Values
a_decl d = decl (tree.declared d) ∷ []

abbrev pub the_decls : List Decl → Values
the_decls ds = source (tree.all_declared ds) ∷ []

abbrev pub a_program : Program → Values
a_program p = source (tree.source p) ∷ []
