-- What an index of the members of a class is seen as.
use Rattle.par_index.specs.Texts.{texts}
use Rattle.par_scope.specs.declared.member_index.MemberIndex.{MemberIndex}
use Rattle.par_scope.specs.Names.{MemberNames}

abbrev pub members_indexed : MemberIndex → MemberNames
members_indexed index = record {
  fields = texts index.fields.names.items;
  channels = texts index.channels.names.items;
  methods = texts index.methods.names.items;
}
