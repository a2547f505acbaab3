-- `strokes::windows::Windows::of` meets its contract.
use Rattle.strokes.proofs.WindowBits.{windows}
use Rattle.strokes.proofs.windows.Windows.of.Goals as goal

pub returns : goal.returns
returns c = windows c.args.word0 c.slide.result c.args.word1 c.slide.ensures
