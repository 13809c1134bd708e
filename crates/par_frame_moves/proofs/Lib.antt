pub use Rattle.par_frame_steps.proofs.par_kinds as par_kinds
