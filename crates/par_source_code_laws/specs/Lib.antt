pub mod Texts
pub mod Slots
pub mod PlaceableLaws
pub mod Named
pub mod Methods
pub mod Items
pub mod Laws
pub mod Compiled
pub use Rattle.par_code_form.specs as par_code_form
pub use Rattle.par_typed_laws.specs as par_typed_laws
pub use Rattle.par_evaluation_laws.specs as par_evaluation_laws
