use Rattle.par_frame_forms.proofs.Shortest as shortest
use Rattle.par_frame_forms.proofs.laws.written_is_shortest.Goals as goal

pub returns : goal.returns
returns c = shortest.written_is_shortest
