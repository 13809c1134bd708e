-- All places in a tree are at most a number.
use Rattle.std.specs.Prelude.{ℕ, ◌≤◌, List, Option, Some, None}
use Rattle.std.specs.List.{AllByRecursion}
use Rattle.par_tree.specs.declared.ident.Ident.{Ident}
use Rattle.par_tree.specs.declared.types.TypeTree.{TypeTree}
use Rattle.par_tree.specs.declared.types.TypeTree.TheVariants as type
use Rattle.par_tree.specs.declared.policy.LockTree.{LockTree}
use Rattle.par_tree.specs.declared.policy.ClauseTree.{ClauseTree}
use Rattle.par_tree.specs.declared.policy.PolicyTerm.{PolicyTerm}
use Rattle.par_tree.specs.declared.policy.PolicyTerm.TheVariants.{Clauses, Named, Bottom, Top}
use Rattle.par_tree.specs.declared.policy.PolicyExpr.{PolicyExpr}
use Rattle.par_tree.specs.declared.decl.FieldDecl.{FieldDecl}
use Rattle.par_tree.specs.declared.decl.ChannelDecl.{ChannelDecl}
use Rattle.par_tree.specs.declared.decl.ParamDecl.{ParamDecl}
use Rattle.par_tree.specs.declared.decl.ThrowDecl.{ThrowDecl}
use Rattle.par_tree.specs.declared.decl.LockDecl.{LockDecl}
use Rattle.par_tree.specs.declared.decl.PolicyDecl.{PolicyDecl}
use Rattle.par_tree.specs.Plain.{Exp, Int, True, False, Null, This, New, Name, Field, Call, Neg}
use Rattle.par_tree.specs.Plain.{Not, Binary}
use Rattle.par_tree.specs.Plain.{Exps, NoExps, More, MayExp, Absent, Present, Local, Method, Class}
use Rattle.par_tree.specs.Plain.{Sta, Block, If, While, Try, Return, Break, Continue, Throw, Open}
use Rattle.par_tree.specs.Plain.{Close}
use Rattle.par_tree.specs.Plain.{Declare, Assign, Do, When, Braces, In, MayBraces, NoBraces}
use Rattle.par_tree.specs.Plain as plain
use Rattle.par_tree.specs.Plain.{Else, NoElse, Otherwise, Stas, End, Then, Catches, NoCatch, Catch}
use Rattle.par_tree.specs.Plain.{Handler, On}
use Rattle.par_tree.specs.Plain.{Declaration, Actors, Lock, Policy, Declared, Source}

module _ (m : ℕ) where
  abbrev pub IdentIn : Ident → Type 0
  IdentIn id = id.at ≤ m

  abbrev pub AreIn : List Ident → Type 0
  AreIn ids = AllByRecursion IdentIn ids

  abbrev pub TypeIn : TypeTree → Type 0
  TypeIn (type.Int at) = at ≤ m
  TypeIn (type.Boolean at) = at ≤ m
  TypeIn (type.Class id) = IdentIn id

  abbrev pub ResultIn : Option TypeTree → Type 0
  ResultIn None = Unit {0}
  ResultIn (Some t) = TypeIn t

  abbrev pub LockIn : LockTree → Type 0
  LockIn lock = IdentIn lock.id × AreIn lock.actors

  abbrev pub LocksIn : List LockTree → Type 0
  LocksIn locks = AllByRecursion LockIn locks

  abbrev pub ClauseIn : ClauseTree → Type 0
  ClauseIn clause = IdentIn clause.actor × LocksIn clause.locks

  abbrev pub TermIn : PolicyTerm → Type 0
  TermIn (Clauses clauses) = AllByRecursion ClauseIn clauses
  TermIn (Named id) = IdentIn id
  TermIn Bottom = Unit {0}
  TermIn Top = Unit {0}

  abbrev pub PolicyIn : PolicyExpr → Type 0
  PolicyIn policy = (policy.at ≤ m) × AllByRecursion TermIn policy.terms

  abbrev pub MayPolicyIn : Option PolicyExpr → Type 0
  MayPolicyIn None = Unit {0}
  MayPolicyIn (Some policy) = PolicyIn policy

  unfoldable mutual
    pub ExpIn : Exp → Type 0
    ExpIn (Int n at) = at ≤ m
    ExpIn (True at) = at ≤ m
    ExpIn (False at) = at ≤ m
    ExpIn (Null at) = at ≤ m
    ExpIn (This at) = at ≤ m
    ExpIn (New class at) = IdentIn class × (at ≤ m)
    ExpIn (Name name at) = at ≤ m
    ExpIn (Field e f at) = ExpIn e × IdentIn f × (at ≤ m)
    ExpIn (Call o f es at) = MayExpIn o × IdentIn f × ExpsIn es × (at ≤ m)
    ExpIn (Neg e at) = ExpIn e × (at ≤ m)
    ExpIn (Not e at) = ExpIn e × (at ≤ m)
    ExpIn (Binary op a b at) = ExpIn a × ExpIn b × (at ≤ m)

    pub MayExpIn : MayExp → Type 0
    MayExpIn Absent = Unit {0}
    MayExpIn (Present e) = ExpIn e

    pub ExpsIn : Exps → Type 0
    ExpsIn NoExps = Unit {0}
    ExpsIn (More e es) = ExpIn e × ExpsIn es

  abbrev pub LocalIn : Local → Type 0
  LocalIn local = IdentIn local.id × TypeIn local.ty × MayPolicyIn local.policy × ExpIn local.value

  unfoldable mutual
    pub StaIn : Sta → Type 0
    StaIn (Block b at) = BracesIn b × (at ≤ m)
    StaIn (If e b o at) = ExpIn e × BracesIn b × ElseIn o × (at ≤ m)
    StaIn (While e b at) = ExpIn e × BracesIn b × (at ≤ m)
    StaIn (Try b cs at) = BracesIn b × CatchesIn cs × (at ≤ m)
    StaIn (Return e at) = MayExpIn e × (at ≤ m)
    StaIn (Break at) = at ≤ m
    StaIn (Continue at) = at ≤ m
    StaIn (Throw class at) = IdentIn class × (at ≤ m)
    StaIn (Open lock at) = LockIn lock × (at ≤ m)
    StaIn (Close lock at) = LockIn lock × (at ≤ m)
    StaIn (Declare local at) = LocalIn local × (at ≤ m)
    StaIn (Assign target value at) = ExpIn target × ExpIn value × (at ≤ m)
    StaIn (Do call at) = ExpIn call × (at ≤ m)
    StaIn (When lock b o at) = LockIn lock × BracesIn b × MayBracesIn o × (at ≤ m)

    pub BracesIn : Braces → Type 0
    BracesIn (In ss at) = StasIn ss × (at ≤ m)

    pub MayBracesIn : MayBraces → Type 0
    MayBracesIn NoBraces = Unit {0}
    MayBracesIn (plain.Some b) = BracesIn b

    pub ElseIn : Else → Type 0
    ElseIn NoElse = Unit {0}
    ElseIn (Otherwise s) = StaIn s

    pub StasIn : Stas → Type 0
    StasIn End = Unit {0}
    StasIn (Then s ss) = StaIn s × StasIn ss

    pub CatchesIn : Catches → Type 0
    CatchesIn NoCatch = Unit {0}
    CatchesIn (Catch c cs) = HandlerIn c × CatchesIn cs

    pub HandlerIn : Handler → Type 0
    HandlerIn (On class name b) = IdentIn class × IdentIn name × BracesIn b

  abbrev pub FieldIn : FieldDecl → Type 0
  FieldIn f = IdentIn f.id × TypeIn f.ty × MayPolicyIn f.policy

  abbrev pub ChannelIn : ChannelDecl → Type 0
  ChannelIn c = IdentIn c.id × MayPolicyIn c.policy

  abbrev pub ParamIn : ParamDecl → Type 0
  ParamIn p = IdentIn p.id × TypeIn p.ty × MayPolicyIn p.policy

  abbrev pub ThrowIn : ThrowDecl → Type 0
  ThrowIn t = IdentIn t.class × PolicyIn t.policy

  pub record MethodIn (method : Method) : Type 0 where
    pub id : IdentIn method.id
    pub result : ResultIn method.result
    pub policy : MayPolicyIn method.policy
    pub params : AllByRecursion ParamIn method.params
    pub effects : AllByRecursion PolicyIn method.effects
    pub expects : LocksIn method.expects
    pub opens : LocksIn method.opens
    pub closes : LocksIn method.closes
    pub throws : AllByRecursion ThrowIn method.throws
    pub body : BracesIn method.body

  pub record ClassIn (class : Class) : Type 0 where
    pub id : IdentIn class.id
    pub birth : MayPolicyIn class.birth
    pub fields : AllByRecursion FieldIn class.fields
    pub channels : AllByRecursion ChannelIn class.channels
    pub methods : AllByRecursion MethodIn class.methods

  abbrev pub LockDeclIn : LockDecl → Type 0
  LockDeclIn lock = IdentIn lock.id × MayPolicyIn lock.policy

  abbrev pub PolicyDeclIn : PolicyDecl → Type 0
  PolicyDeclIn policy = IdentIn policy.id × PolicyIn policy.policy

  abbrev pub DeclarationIn : Declaration → Type 0
  DeclarationIn (Actors ids) = AreIn ids
  DeclarationIn (Lock lock) = LockDeclIn lock
  DeclarationIn (Policy policy) = PolicyDeclIn policy
  DeclarationIn (Declared class) = ClassIn class

  -- all places in a source's tree
  abbrev pub IsWithin : Source → Type 0
  IsWithin source = AllByRecursion DeclarationIn source
