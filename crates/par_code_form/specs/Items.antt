-- Labelled code: instructions that name what they work on, and labels that branches go to.
pub use Rattle.par_code_form.specs.declared.item.Item.{Item}
pub use Rattle.par_code_form.specs.declared.item.Item.TheVariants.{Label, Op, Const, Jump, Member}
pub use Rattle.par_code_form.specs.declared.item.Item.TheVariants.{ClassOp, LockOp}
pub use Rattle.par_code_form.specs.declared.labelled.Handler.{Handler}
