-- The members of a class, as names find them: fields have one set of names, methods and channels
-- together another.
use Rattle.std.specs.Prelude.{ℕ, Bool, true, false, ◌++◌, nat_lt, if◌then◌else◌, List, map, Option}
use Rattle.std.specs.Prelude.{Some, None}
use Rattle.std.specs.List.{find}
use Rattle.std.specs.Str.{bytes_eq}
use Rattle.par_tree.specs.declared.ident.Ident.{Ident}
use Rattle.par_tree.specs.declared.decl.FieldDecl.{FieldDecl}
use Rattle.par_tree.specs.declared.decl.ChannelDecl.{ChannelDecl}
use Rattle.par_tree.specs.Plain.{Class, Method}

abbrev pub field_named : Class → List ℕ → Option FieldDecl
field_named class name = find (λ field. bytes_eq name field.id.name) class.fields

abbrev pub channel_named : Class → List ℕ → Option ChannelDecl
channel_named class name = find (λ channel. bytes_eq name channel.id.name) class.channels

abbrev pub method_named : Class → List ℕ → Option Method
method_named class name = find (λ method. bytes_eq name method.id.name) class.methods

-- of a channel and a method the one that is declared first is called; it is static or not
unfoldable pub earlier_callee : Option ChannelDecl → Option Method → Option Bool
earlier_callee None None = None
earlier_callee (Some channel) None = Some true
earlier_callee None (Some method) = Some method.is_static
earlier_callee (Some channel) (Some method) =
    if nat_lt channel.id.at method.id.at then Some true else Some method.is_static

-- whether what a call of this name calls is static, where the class has such a member
abbrev pub callee_named : Class → List ℕ → Option Bool
callee_named class name = earlier_callee (channel_named class name) (method_named class name)

-- whether a field of this name is static, where the class has one
unfoldable pub static_of : Option FieldDecl → Option Bool
static_of None = None
static_of (Some field) = Some field.is_static

abbrev pub selected_named : Class → List ℕ → Option Bool
selected_named class name = static_of (field_named class name)

-- a static member that is there
unfoldable pub is_static : Option Bool → Bool
is_static None = false
is_static (Some s) = s

-- the names of the methods and the channels
abbrev pub callee_ids : Class → List Ident
callee_ids class = map (λ c. c.id) class.channels ++ map (λ m. m.id) class.methods
