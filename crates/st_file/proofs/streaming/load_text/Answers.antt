use Rattle.std.proofs.lemmas.Result.{IfOk-weaker}
use Rattle.st_file.proofs.StreamedTexts.{streamed}
use Rattle.st_file.proofs.streaming.load_text.Goals as goal

pub returns : goal.returns
returns g c =
    let besides = c.in_ok-besides in
    IfOk-weaker c.load_world.result _ _ (λ i behind. streamed c.args.text.now besides.besides c.in_ok-loader.loader i besides.ensures.counted besides.ensures.told c.in_ok-loader.ensures behind) c.load_world.ensures
