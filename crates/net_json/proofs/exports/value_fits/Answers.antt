use Rattle.fc_values.specs.Values.{local_of}
use Rattle.net_json.proofs.WholeExports.{test_is}
use Rattle.net_json.proofs.exports.value_fits.Goals as goal

pub returns-clause-test : goal.returns-clause-test
returns-clause-test c = let f = c.fits_main.ensures.value in test_is _ _ (local_of c.args.value.now) c.fits_main.result f.0 f.1
