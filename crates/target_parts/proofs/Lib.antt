mod OwnEpochs
mod Prepared
