-- What a call calls, by cases.
use Rattle.std.proofs.Common.{◌≡◌, true, Some, None, refl}
use Rattle.std.specs.Prelude.{nat_lt, if◌then◌else◌}
use Rattle.par_tree.specs.declared.decl.FieldDecl.{FieldDecl}
use Rattle.par_tree.specs.declared.decl.ChannelDecl.{ChannelDecl}
use Rattle.par_tree.specs.Plain.{Method}
use Rattle.par_names.specs.Members.{earlier_callee, static_of}

pub no_callee : earlier_callee None None ≡ None
unfolding earlier_callee
no_callee = refl

pub only_channel : (channel : ChannelDecl) → earlier_callee (Some channel) None ≡ Some true
unfolding earlier_callee
only_channel channel = refl

pub only_method : (method : Method) → earlier_callee None (Some method) ≡ Some method.is_static
unfolding earlier_callee
only_method method = refl

pub of_both : (channel : ChannelDecl) (method : Method)
    → earlier_callee (Some channel) (Some method)
    ≡ (if nat_lt channel.id.at method.id.at then Some true else Some method.is_static)
unfolding earlier_callee
of_both channel method = refl

pub no_field : static_of None ≡ None
unfolding static_of
no_field = refl

pub one_field : (field : FieldDecl) → static_of (Some field) ≡ Some field.is_static
unfolding static_of
one_field field = refl

pub ruleset callees = (no_callee, only_channel, only_method, of_both, no_field, one_field)
