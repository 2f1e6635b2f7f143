-- `say_show` lists the hello with the reader's stop. Assumes nothing.
use Rattle.wire.specs.Stops.{stop_of}
use Rattle.answers_reader.proofs.ListingLaws.{shows-listing}
use Rattle.answers_reader.proofs.say_show.Goals as goal

pub returns : goal.returns
returns c =
    let stop = c.stopped_at in
    let put = c.put_listing in
    shows-listing c.args.hello.now (stop_of stop.result) put.result c.args.out.now put.new.out stop.ensures.result_value put.ensures
