use Rattle.dl_run.proofs.Words.{words-so}
use Rattle.dl_run.proofs.tails.see_words.Goals as goal

pub returns : goal.returns
returns c =
    record {
      words = words-so c.args.thread.now c.see_word.ensures c.see_word-2.ensures c.see_word-3.ensures c.see_word-4.ensures c.see_word-5.ensures c.see_registers.ensures;
      code = c.see_code.ensures;
    }
